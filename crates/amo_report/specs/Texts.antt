-- The texts of a plan alone.
use Rattle.std.specs.Prelude.{ℕ, List, ◌++◌}
use Rattle.amo_sets.specs.Lists.{table}
use Rattle.amo_kk.specs.World.{process, world_of, rounds}
use Rattle.amo_params.specs.declared.givens.Givens.{Givens}
use Rattle.amo_params.specs.declared.moves.Move.{Move}
use Rattle.amo_kk.specs.declared.model.World.{World}
use Rattle.amo_plan.specs.Plan.{PlanSeen}
use Rattle.amo_report.specs.Report.{report_lines}

-- all moves of a plan: its schedule, then its rounds
abbrev pub moves_of : PlanSeen → List Move
moves_of p = p.moves ++ rounds p.givens.workers p.rounds

-- the world to which they lead
abbrev pub plan_world : PlanSeen → World
plan_world p = world_of p.givens (moves_of p)

-- each worker's number of turns, in the order of their numbers
abbrev pub turns_of : Givens → World → List ℕ
turns_of g w = table g.workers (λ p. (process w p).local.steps)

-- the report of a plan in a world
abbrev pub report_in : PlanSeen → World → List ℕ
report_in p w = report_lines p w.history (turns_of p.givens w)

-- the report of a plan: in the world after its moves
abbrev pub report_of : PlanSeen → List ℕ
report_of p = report_in p (plan_world p)
