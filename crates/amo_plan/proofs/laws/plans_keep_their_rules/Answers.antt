-- `plans_keep_their_rules`: its promises, by the lemmas of KeepsLemmas.
use Rattle.amo_plan.proofs.KeepsLemmas.{plan_keeps}
use Rattle.amo_plan.proofs.laws.plans_keep_their_rules.Goals as goal

pub returns : goal.returns
returns c = plan_keeps
