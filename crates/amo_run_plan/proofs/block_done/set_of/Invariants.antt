-- The facts that each pass of a loop of `set_of` keeps.
use Rattle.std.proofs.Common.{◌≡◌, ◌≤◌, ℕ, ◌||◌, false, length, drop}
use Rattle.amo_sets.specs.Lists.{numbered}
use Rattle.amo_sets.specs.Sets.{has}
use Rattle.amo_run_plan.proofs.block_done.set_of.Given as goal

-- a job is in the list if it is in the set or in the rest of the list
abbrev pub invariant-loop-job : goal.invariant-loop-job
invariant-loop-job l = record {
  count : length l.set ≡ l.jobs;
  members : (k : ℕ) → 1 ≤ k → k ≤ l.jobs → (numbered false l.set k || has (drop l.job-index l.list) k) ≡ has l.list k;
}
