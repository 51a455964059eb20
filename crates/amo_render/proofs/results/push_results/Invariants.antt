-- The facts that each pass of a loop of `push_results` keeps.
use Rattle.std.proofs.Common.{◌≡◌, ◌++◌, drop, string_bytes}
use Rattle.amo_render.specs.Results.{done_results}
use Rattle.amo_render.proofs.results.push_results.Given as goal

-- what is written and the results to come are what was there and all results
abbrev pub invariant-loop-event : goal.invariant-loop-event
invariant-loop-event l = string_bytes l.out ++ done_results l.block l.names l.tasks (drop l.event-index l.history) ≡ string_bytes l.fn.out ++ done_results l.block l.names l.tasks l.history
