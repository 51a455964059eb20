-- `plan_of_bytes`: its promises, directly from definitions and clauses.
use Rattle.amo_render.proofs.writing.plan_of_bytes.Goals as goal

pub returns-in-Ok-clause-kept : goal.returns-in-Ok-clause-kept
returns-in-Ok-clause-kept c = c.plans_keep_their_rules.ensures _ _ c.in-Ok.ensures.plan
