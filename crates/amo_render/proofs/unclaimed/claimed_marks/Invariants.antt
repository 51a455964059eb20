-- The facts that each pass of a loop of `claimed_marks` keeps.
use Rattle.std.proofs.Common.{◌≡◌, ◌≤◌, ℕ, ◌||◌, false, drop, vec_len}
use Rattle.amo_sets.specs.Lists.{numbered}
use Rattle.amo_sets.specs.Sets.{has}
use Rattle.amo_kk.specs.Run.{claimed_jobs}
use Rattle.amo_render.proofs.unclaimed.claimed_marks.Given as goal

-- a job is claimed if it is marked or an event to come claims it
abbrev pub invariant-loop-event : goal.invariant-loop-event
invariant-loop-event l = record {
  count : vec_len l.marks ≡ l.jobs;
  marks : (k : ℕ) → 1 ≤ k → k ≤ l.jobs → (numbered false l.marks.items k || has (claimed_jobs (drop l.event-index l.history)) k) ≡ has (claimed_jobs l.history) k;
}
