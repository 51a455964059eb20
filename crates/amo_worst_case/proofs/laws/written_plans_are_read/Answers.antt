-- `written_plans_are_read`: its promises, by the lemmas of ReadPlan.
use Rattle.amo_worst_case.proofs.ReadPlan.{plan_read}
use Rattle.amo_worst_case.proofs.laws.written_plans_are_read.Goals as goal

pub returns : goal.returns
returns c = λ bytes p e integers small text. plan_read bytes p e integers small text
