-- The facts that each pass of a loop of `claimers_of` keeps.
use Rattle.std.proofs.Common.{◌≡◌, ◌≤◌, ◌+◌, ℕ, None, length, drop}
use Rattle.std.specs.Option.{option_or}
use Rattle.amo_sets.specs.Lists.{numbered}
use Rattle.amo_run_plan.specs.Became.{listed, claimer_from, claimer_of}
use Rattle.amo_run_plan.proofs.claimers.claimers_of.Given as goal

-- whom a job has, and whom the lists to come give it, is whom all lists give it
abbrev pub invariant-loop-i : goal.invariant-loop-i
invariant-loop-i l = record {
  count : length l.claimers.items ≡ l.jobs;
  noted : (k : ℕ) → 1 ≤ k → k ≤ l.jobs
      → option_or (numbered None l.claimers.items k) (claimer_from (l.i + 1) (listed (drop l.i l.claims)) k) ≡ claimer_of (listed l.claims) k;
}
