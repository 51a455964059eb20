-- The contents of a plan, without their places in memory.
use Rattle.amo_plan.specs.declared.plan.Plan.{Plan}
use Rattle.amo_plan.specs.Plan.{PlanSeen}

-- a plan as contracts see it
abbrev pub plan_seen : Plan → PlanSeen
plan_seen p = record {
  version = p.heads.version;
  block = p.heads.block;
  givens = p.heads.givens;
  names = p.heads.names;
  tasks = p.tasks;
  moves = p.heads.moves;
  rounds = p.heads.rounds;
  budgets = p.heads.budgets;
}
