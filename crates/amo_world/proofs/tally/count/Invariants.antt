-- The facts that each pass of a loop of `count` keeps.
use Rattle.std.proofs.Common.{◌≡◌, ◌+◌, length, drop, ◌≤◌}
use Rattle.amo_kk.specs.Run.{claimed_jobs, done_jobs}
use Rattle.amo_world.proofs.tally.count.Given as goal

abbrev pub invariant-loop-event : goal.invariant-loop-event
invariant-loop-event l =
    record {
      few_claims : l.claimed ≤ l.event-index;
      few_dones : l.performed ≤ l.event-index;
      claims : l.claimed + length (claimed_jobs (drop l.event-index l.history)) ≡ length (claimed_jobs l.history);
      dones : l.performed + length (done_jobs (drop l.event-index l.history)) ≡ length (done_jobs l.history);
    }
