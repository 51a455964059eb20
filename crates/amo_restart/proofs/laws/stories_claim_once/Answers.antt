-- `stories_claim_once`: its promises, by the lemmas of Counts.
use Rattle.amo_restart.proofs.Counts.{claims_distinct, filed_distinct, filed_has_claim, doubt_has_claim}
use Rattle.amo_restart.proofs.laws.stories_claim_once.Goals as goal

pub returns-clause-claims : goal.returns-clause-claims
returns-clause-claims c = λ g xs h. claims_distinct g xs h

pub returns-clause-filed : goal.returns-clause-filed
returns-clause-filed c = λ g xs h. filed_distinct g xs h

pub returns-clause-claimed_before : goal.returns-clause-claimed_before
returns-clause-claimed_before c = λ g xs ys p j h. filed_has_claim g xs ys p j h

pub returns-clause-doubt_was_claimed : goal.returns-clause-doubt_was_claimed
returns-clause-doubt_was_claimed c = λ g xs ys p j h some. doubt_has_claim g xs ys p j h some
