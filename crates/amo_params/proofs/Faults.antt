-- Three numbers are givens exactly if they break no limit.
use Rattle.std.proofs.Common.{◌≡◌, ℕ, refl, ap, arith, ◌≤◌, Bool, false}
use Rattle.std.specs.Prelude.{Option, Some, None, Ok, nat_lt, ◌==◌, if◌then◌else◌}
use Rattle.std.proofs.Math.Bridge.{le_prop}
use Rattle.std.proofs.lemmas.Bool.Decides.{nat_tests}
use Rattle.amo_params.specs.Limits.{AreWithinLimits, first_fault, within_limits}
use Rattle.amo_params.specs.Givens.{givens_of, numbers_or_fault}
use Rattle.amo_params.specs.declared.limits.TheConstants.{MAX_JOBS, MAX_WORKERS, MAX_BETA}
use Rattle.amo_params.specs.declared.givens.GivensFault.{GivensFault}
use Rattle.amo_params.specs.declared.givens.GivensFault.TheVariants.{TooManyJobs, NoWorkers, TooManyWorkers, BetaLow, BetaHigh}

-- numbers within the limits break none
pub limits_break_none : (jobs workers beta : ℕ) → AreWithinLimits jobs workers beta → first_fault jobs workers beta ≡ None
limits_break_none jobs workers beta l =
    go (nat_lt MAX_JOBS jobs) (workers == 0) (nat_lt MAX_WORKERS workers) (nat_lt beta workers) (nat_lt MAX_BETA beta)
    (not_below MAX_JOBS jobs l.few_jobs) (not_zero workers l.some) (not_below MAX_WORKERS workers l.few_workers) (not_below beta workers l.beta_low) (not_below MAX_BETA beta l.beta_high)
  where
    not_below : (a b : ℕ) → b ≤ a → nat_lt a b ≡ false
    not_below a b l = grind (arith, nat_tests)

    not_zero : (a : ℕ) → 1 ≤ a → (a == 0) ≡ false
    not_zero a l = grind (arith, nat_tests)

    go : (a b c d e : Bool) → a ≡ false → b ≡ false → c ≡ false → d ≡ false → e ≡ false
        → (if a then Some TooManyJobs else (if b then Some NoWorkers else (if c then Some TooManyWorkers else (if d then Some BetaLow else (if e then Some BetaHigh else None))))) ≡ None
    go a b c d e u v x y z = λ i. if u i then Some TooManyJobs else (if v i then Some NoWorkers else (if x i then Some TooManyWorkers else (if y i then Some BetaLow else (if z i then Some BetaHigh else None))))

-- there is one proof at most that numbers are within the limits
same_limits : (jobs workers beta : ℕ) (l m : AreWithinLimits jobs workers beta) → l ≡ m
same_limits jobs workers beta = hlevel le_prop

-- givens have the numbers that they were made of
pub givens_within : (jobs workers beta : ℕ) (l : AreWithinLimits jobs workers beta) → Ok (record { jobs = jobs; workers = workers; beta = beta; limits = l }) ≡ givens_of jobs workers beta
givens_within jobs workers beta l = go (first_fault jobs workers beta) refl
  where
    go : (fault : Option GivensFault) (is : first_fault jobs workers beta ≡ fault) → Ok (record { jobs = jobs; workers = workers; beta = beta; limits = l }) ≡ numbers_or_fault jobs workers beta fault is
    go None is = ap (λ (m : AreWithinLimits jobs workers beta). Ok (record { jobs = jobs; workers = workers; beta = beta; limits = m })) (same_limits jobs workers beta l (within_limits jobs workers beta is))
    go (Some f) is = let none : first_fault jobs workers beta ≡ None = limits_break_none jobs workers beta l in absurd (cc)
