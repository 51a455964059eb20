-- The lines of a report: a function of the plan, the history and each worker's number of turns.
use Rattle.std.specs.Prelude.{ℕ, List, ◌++◌, length}
use Rattle.amo_kk.specs.Run.{done_jobs}
use Rattle.amo_kk.specs.declared.event.Event.{Event}
use Rattle.amo_plan.specs.Plan.{PlanSeen}
use Rattle.amo_render.specs.Numbers.{first_line}
use Rattle.amo_render.specs.EventLines.{event_lines, worker_lines}
use Rattle.amo_render.specs.Results.{done_results}
use Rattle.amo_render.specs.Tallies.{performed_line, unclaimed_line}

-- what happened: a line for each event and one for each worker
unfoldable pub happened_lines : List Event → List ℕ → List ℕ
happened_lines history turns = event_lines 1 history ++ worker_lines history 1 turns

-- the lines that close a report say what came of it: the results, how much was performed, and what
-- nobody has claimed
unfoldable pub closing_lines : PlanSeen → List Event → List ℕ
closing_lines p history =
    done_results p.block p.names p.tasks history
    ++ performed_line p.version p.block (length p.names) (done_jobs history)
    ++ unclaimed_line p.givens.jobs history

-- the first line, what happened, and the lines that close it
unfoldable pub report_lines : PlanSeen → List Event → List ℕ → List ℕ
report_lines p history turns = first_line p.version p.block (length p.names) p.givens ++ happened_lines history turns ++ closing_lines p history
