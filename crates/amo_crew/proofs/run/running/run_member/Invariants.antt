-- The facts that each pass of a loop of `run_member` keeps.
use Rattle.std.proofs.Common.{◌-◌}
use Rattle.amo_words.specs.Faces.{machine}
use Rattle.amo_claims.specs.Calls.{worker_in}
use Rattle.amo_crew.specs.Running.{HasFiled}
use Rattle.amo_crew.proofs.run.running.run_member.Given as goal

abbrev pub invariant-loop-ready : goal.invariant-loop-ready
invariant-loop-ready g l = let first = worker_in l.fn.member.after in HasFiled (g.W.Work.related l.work) l.queue l.floor.table_id first.view.givens first.view.payloads (machine first).number l.budget l.ready l.outlet

abbrev pub decreases-loop-ready : goal.decreases-loop-ready
decreases-loop-ready g l = l.budget - (machine l.ready).state.steps
