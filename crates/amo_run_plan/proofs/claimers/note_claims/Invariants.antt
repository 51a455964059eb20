-- The facts that each pass of a loop of `note_claims` keeps.
use Rattle.std.proofs.Common.{◌≡◌, ◌≤◌, ℕ, None, length, drop}
use Rattle.std.specs.Option.{option_or}
use Rattle.amo_sets.specs.Lists.{numbered}
use Rattle.amo_run_plan.specs.Noted.{claimed_by}
use Rattle.amo_run_plan.proofs.claimers.note_claims.Given as goal

-- whom a job has, and whom the claims to come give it, is whom it had and whom all claims give it
abbrev pub invariant-loop-job : goal.invariant-loop-job
invariant-loop-job l = record {
  count : length l.claimers ≡ length l.fn.claimers;
  noted : (k : ℕ) → 1 ≤ k → k ≤ length l.fn.claimers
      → option_or (numbered None l.claimers k) (claimed_by l.worker (drop l.job-index l.claims) k) ≡ option_or (numbered None l.fn.claimers k) (claimed_by l.worker l.claims k);
}
