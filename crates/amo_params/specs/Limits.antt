-- The limits of the numbers of jobs and workers and of the threshold, and the first that is broken.
use Rattle.std.specs.Prelude.{◌≡◌, ℕ, ◌≤◌, nat_lt, ◌==◌, if◌then◌else◌, Option, Some, None}
use Rattle.std.proofs.Common.{arith}
use Rattle.std.proofs.lemmas.Bool.Decides.{nat_tests}
use Rattle.amo_params.specs.declared.limits.TheConstants.{MAX_JOBS, MAX_WORKERS, MAX_BETA}
use Rattle.amo_params.specs.declared.givens.GivensFault.{GivensFault}
use Rattle.amo_params.specs.declared.givens.GivensFault.TheVariants.{TooManyJobs, NoWorkers, TooManyWorkers, BetaLow, BetaHigh}

-- the numbers keep all limits
pub record AreWithinLimits (jobs workers beta : ℕ) : Type 0 where
  pub few_jobs : jobs ≤ MAX_JOBS
  pub some : 1 ≤ workers
  pub few_workers : workers ≤ MAX_WORKERS
  pub beta_low : workers ≤ beta
  pub beta_high : beta ≤ MAX_BETA

-- the first limit that the three numbers break, if they break one
abbrev pub first_fault : ℕ → ℕ → ℕ → Option GivensFault
first_fault jobs workers beta =
    if nat_lt MAX_JOBS jobs
    then Some TooManyJobs
    else (if workers == 0
    then Some NoWorkers
    else (if nat_lt MAX_WORKERS workers
    then Some TooManyWorkers
    else (if nat_lt beta workers then Some BetaLow else (if nat_lt MAX_BETA beta then Some BetaHigh else None))))

-- three numbers that break no limit are within the limits
pub within_limits : (jobs workers beta : ℕ) → first_fault jobs workers beta ≡ None → AreWithinLimits jobs workers beta
within_limits jobs workers beta unbroken =
    record {
      few_jobs = grind (arith, nat_tests);
      some = grind (arith, nat_tests);
      few_workers = grind (arith, nat_tests);
      beta_low = grind (arith, nat_tests);
      beta_high = grind (arith, nat_tests);
    }
