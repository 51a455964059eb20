-- How many moves the worst schedule has.
use Rattle.std.proofs.Common.{◌≡◌, ℕ, zero, suc, ◌+◌, ◌-◌, ◌*◌, ◌≤◌, Bool, true, false, [], ◌∷◌, ◌++◌, length, replicate, refl, arith, length-append}
use Rattle.std.specs.Prelude.{if◌then◌else◌, nat_lt, ◌==◌}
use Rattle.std.proofs.lemmas.Bool.{ltb-false, le-ltb}
use Rattle.std.proofs.lemmas.Bool.Decides.{nat_tests}
use Rattle.std.proofs.lemmas.List.{length-replicate}
use Rattle.amo_params.specs.Givens.{bound}
use Rattle.amo_params.specs.declared.givens.Givens.{Givens}
use Rattle.amo_params.specs.declared.limits.TheConstants.{MAX_JOBS, MAX_WORKERS}
use Rattle.amo_params.specs.declared.moves.Move.TheVariants.{Turn, Halt}
use Rattle.amo_bounds.specs.Fewest.{fewest}
use Rattle.amo_bounds.specs.Worst.{stuck_moves, lone_turns, worst_moves}

-- at most one for each job, since a threshold is at least the number of workers
fewest_few : (g : Givens) → fewest g ≤ g.jobs
fewest_few g = go (nat_lt g.jobs g.beta) refl
  where
    rest : (b : Bool) → g.beta ≤ g.jobs → (if b then 1 else bound g) ≤ g.jobs
    rest true many = let some = g.limits.some in let low = g.limits.beta_low in omega arith
    rest false many = omega arith

    go : (b : Bool) → nat_lt g.jobs g.beta ≡ b → (if b then 0 else (if bound g == 0 then 1 else bound g)) ≤ g.jobs
    go true e = omega arith
    go false e = rest (bound g == 0) (ltb-false _ _ e)

-- `MAX_JOBS` jobs and `MAX_WORKERS` workers are the most
pub few_turns : (g : Givens) → (fewest g ≤ MAX_JOBS) × (lone_turns g ≤ MAX_JOBS * (2 * MAX_WORKERS + 1))
few_turns g =
    let few = fewest_few g in
    let jobs : fewest g ≤ MAX_JOBS = let most = g.limits.few_jobs in omega arith in
    (jobs, product (fewest g) (2 * g.workers + 1) jobs (let most = g.limits.few_workers in omega arith))
  where
    product : (a b : ℕ) → a ≤ MAX_JOBS → b ≤ 2 * MAX_WORKERS + 1 → a * b ≤ MAX_JOBS * (2 * MAX_WORKERS + 1)
    product a b h l = grind arith

stuck_length : (k : ℕ) → length (stuck_moves k) ≡ 2 * k
stuck_length zero = refl
stuck_length (suc k) = let both = length-append (stuck_moves k) (Turn (k + 2) ∷ Halt (k + 2) ∷ []) in let before = stuck_length k in omega arith

-- two moves for each other worker, and the turns of worker 1
pub worst_length : (g : Givens) → length (worst_moves g) ≡ (if nat_lt g.jobs g.beta then 0 else 2 * (g.workers - 1) + lone_turns g)
worst_length g = go (nat_lt g.jobs g.beta)
  where
    go : (b : Bool) → length (if b then [] else stuck_moves (g.workers - 1) ++ replicate (lone_turns g) (Turn 1)) ≡ (if b then 0 else 2 * (g.workers - 1) + lone_turns g)
    go true = refl
    go false =
        let both = length-append (stuck_moves (g.workers - 1)) (replicate (lone_turns g) (Turn 1)) in
        let stuck = stuck_length (g.workers - 1) in
        let turns : length (replicate (lone_turns g) (Turn 1)) ≡ lone_turns g = length-replicate (lone_turns g) (Turn 1) in
        omega arith

-- and one if there are enough jobs
pub some_turns : (g : Givens) → g.beta ≤ g.jobs → 1 ≤ lone_turns g
some_turns g enough = product (fewest g) (2 * g.workers + 1) (rw (le-ltb g.jobs g.beta enough) (some (bound g) (bound g == 0) refl)) (omega arith)
  where
    some : (n : ℕ) (b : Bool) → (n == 0) ≡ b → 1 ≤ (if b then 1 else n)
    some n true e = omega arith
    some n false e = grind (arith, nat_tests)

    product : (a b : ℕ) → 1 ≤ a → 1 ≤ b → 1 ≤ a * b
    product a b h l = grind arith
