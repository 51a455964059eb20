-- `what_was_claimed_was_claimed_in_that_event`: its promises, by the lemmas of Told.
use Rattle.amo_judge.specs.declared.reasons.Reason.TheVariants.{ClaimedBefore}
use Rattle.amo_judge.proofs.Told.{said}
use Rattle.amo_judge.proofs.laws.what_was_claimed_was_claimed_in_that_event.Goals as goal

pub returns : goal.returns
returns c g before event j q i is = said g before event (ClaimedBefore j q i) is
