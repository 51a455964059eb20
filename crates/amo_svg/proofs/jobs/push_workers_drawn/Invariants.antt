-- The facts that each pass of a loop of `push_workers_drawn` keeps.
use Rattle.std.proofs.Common.{◌≡◌, ◌++◌, string_bytes}
use Rattle.amo_plan.specs.PlanSeen.{plan_seen}
use Rattle.amo_svg.specs.Jobs.{columns_of, workers_drawn}
use Rattle.amo_svg.proofs.jobs.push_workers_drawn.Given as goal

-- the marks of the workers so far
abbrev pub invariant-loop-before : goal.invariant-loop-before
invariant-loop-before l = string_bytes l.out ≡ string_bytes l.fn.out ++ workers_drawn l.scene.world.now.world.history (columns_of (plan_seen l.scene.plan.now)) l.scene.rows.now l.before
