-- `why_tests_the_state`: its promises, by the lemmas of Found and Searches.
use Rattle.amo_judge.proofs.Found.{reason_found}
use Rattle.amo_judge.proofs.Searches.{gone_is, hand_is, unclaimed_is, performed_is}
use Rattle.amo_judge.proofs.laws.why_tests_the_state.Goals as goal

pub returns-clause-gone : goal.returns-clause-gone
returns-clause-gone c g before p w = gone_is g before p w

pub returns-clause-hand : goal.returns-clause-hand
returns-clause-hand c g before p w = hand_is g before p w

pub returns-clause-unclaimed : goal.returns-clause-unclaimed
returns-clause-unclaimed c g before j job = unclaimed_is g before j job

pub returns-clause-performed : goal.returns-clause-performed
returns-clause-performed c g before = performed_is g before

pub returns-clause-found : goal.returns-clause-found
returns-clause-found c g before event fails = reason_found g before event fails
