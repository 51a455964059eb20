-- `clearance_is_of_each_other_attempt`: its promises, by the lemmas of ClearLaws.
use Rattle.amo_run_log.proofs.ClearLaws.{law_clear, law_is_clear}
use Rattle.amo_run_log.proofs.laws.clearance_is_of_each_other_attempt.Goals as goal

pub returns-clause-is : goal.returns-clause-is
returns-clause-is c findings journals own other line clear stands = law_clear findings own line journals other clear stands

pub returns-clause-only : goal.returns-clause-only
returns-clause-only c findings journals own line none = law_is_clear findings own line journals none
