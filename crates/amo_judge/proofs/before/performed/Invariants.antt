-- The facts that each pass of a loop of `performed` keeps.
use Rattle.std.proofs.Common.{◌≡◌, ◌+◌, ◌≤◌, drop, length}
use Rattle.amo_kk.specs.Run.{done_jobs}
use Rattle.amo_judge.proofs.before.performed.Given as goal

-- the count and those to come are all
abbrev pub invariant-loop-event : goal.invariant-loop-event
invariant-loop-event l = record {
  small : l.count ≤ l.event-index;
  all : l.count + length (done_jobs (drop l.event-index l.events)) ≡ length (done_jobs l.events);
}
