-- `runs_claim_once`: its promises, by the lemmas of Claims.
use Rattle.amo_kk.proofs.Claims.{claims_distinct, dones_distinct, done_has_claim, end_is_late}
use Rattle.amo_kk.proofs.laws.runs_claim_once.Goals as goal

pub returns-clause-claims : goal.returns-clause-claims
returns-clause-claims c = λ g events run. claims_distinct g events run

pub returns-clause-dones : goal.returns-clause-dones
returns-clause-dones c = λ g events run. dones_distinct g events run

pub returns-clause-claimed_before : goal.returns-clause-claimed_before
returns-clause-claimed_before c = λ g before after p j run. done_has_claim g before after p j run

pub returns-clause-late_end : goal.returns-clause-late_end
returns-clause-late_end c = λ g before after p run. end_is_late g before after p g.limits run
