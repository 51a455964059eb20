-- The givens: how many jobs, how many workers, and the threshold.
use Rattle.std.specs.Prelude.{◌≢◌, ℕ, ◌+◌, ◌-◌, ◌*◌, ◌≤◌, nat_le, nat_lt, ◌==◌, Bool, ◌&&◌, if◌then◌else◌, ◌≡◌, refl, Option, Some, None, Result, Ok, Err}
use Rattle.amo_params.specs.declared.givens.Givens.{Givens}
use Rattle.amo_params.specs.Limits.{AreWithinLimits, first_fault, within_limits}
use Rattle.amo_params.specs.declared.givens.GivensFault.{GivensFault}

-- the numbers keep their limits, as those of all givens do
abbrev pub AreGivens : Givens → Type 0
AreGivens g = AreWithinLimits g.jobs g.workers g.beta

-- the same, by the first limit that is broken
abbrev pub numbers_or_fault : (jobs workers beta : ℕ) (fault : Option GivensFault) → first_fault jobs workers beta ≡ fault → Result Givens GivensFault
numbers_or_fault jobs workers beta None unbroken =
    Ok (record { jobs = jobs; workers = workers; beta = beta; limits = within_limits jobs workers beta unbroken })
numbers_or_fault jobs workers beta (Some fault) broken = Err fault

-- the givens of three numbers, or the first limit that they break
abbrev pub givens_of : ℕ → ℕ → ℕ → Result Givens GivensFault
givens_of jobs workers beta = numbers_or_fault jobs workers beta (first_fault jobs workers beta) refl

-- wherever a worker has ended, at least so many jobs are done
abbrev pub bound : Givens → ℕ
bound g = g.jobs - (g.beta + g.workers - 2)

-- a worker alone claims a job or ends within so many turns: six for each worker, and one for each
-- job
abbrev pub lone_bound : Givens → ℕ
lone_bound g = 6 * g.workers + g.jobs

-- k is in 1..n
abbrev pub is_within : ℕ → ℕ → Bool
is_within n k = nat_le 1 k && nat_le k n

-- j is a job
pub record IsJob (g : Givens) (j : ℕ) : Type 0 where
  pub low : 1 ≤ j
  pub high : j ≤ g.jobs

-- p is a worker
pub record IsWorker (g : Givens) (p : ℕ) : Type 0 where
  pub low : 1 ≤ p
  pub high : p ≤ g.workers

-- q is a worker, and another one than p
pub record IsOther (g : Givens) (p q : ℕ) : Type 0 where
  pub worker : IsWorker g q
  pub differs : q ≢ p

-- the number after q, leaving out p: `next_other p 0` is the first other of p
abbrev pub next_other : ℕ → ℕ → ℕ
next_other p q = if q + 1 == p then q + 2 else q + 1

-- how many others of p come before q
abbrev pub others_before : ℕ → ℕ → ℕ
others_before p q = if nat_lt p q then q - 2 else q - 1
