-- The job that the choice finds, and the first choices of the workers.
use Rattle.std.proofs.Common.{◌≡◌, ap, sym, ◌∙◌, ℕ, ◌+◌, ◌-◌, ◌*◌, ◌/◌, ◌<◌, ◌≤◌, Bool, true, false, [], length, refl, arith}
use Rattle.std.specs.Prelude.{nat_le, if◌then◌else◌}
use Rattle.std.proofs.lemmas.Bool.{and_from, eq-eqb, leb-true, le-ltb, lt-ltb}
use Rattle.std.proofs.lemmas.Nat.{le-div}
use Rattle.std.proofs.Math.Nat.{div-mul-le_self}
use Rattle.amo_sets.specs.Sets.{has}
use Rattle.amo_sets.specs.Rank.{count, has_rank, number_of_rank}
use Rattle.amo_sets.proofs.Numbers.{count_true, ranked_is}
use Rattle.amo_params.specs.Givens.{IsJob, IsWorker}
use Rattle.amo_kk.specs.Record.{is_free, is_open, empty_record}
use Rattle.amo_kk.specs.Choice.{chosen_rank, chosen_job, first_record}
use Rattle.amo_params.specs.declared.givens.Givens.{Givens}
use Rattle.amo_kk.specs.declared.model.Record.{Record}
use Rattle.amo_kk.specs.declared.phase.Phase.TheVariants.{Announcing, Over}
use Rattle.amo_kk.proofs.Choice.{open_parts, chosen_is, rank_within}

-- the chosen job is a job of the wanted rank, and open
pub choice_finds : (g : Givens) (p : ℕ) (r : Record) → IsWorker g p → length r.tried < g.workers → g.beta ≤ count g.jobs (is_open r)
    → IsJob g (chosen_job g p r) × (has_rank (is_open r) (chosen_rank g p (count g.jobs (is_free r))) (chosen_job g p r) ≡ true)
    × (has r.known (chosen_job g p r) ≡ false) × (has r.tried (chosen_job g p r) ≡ false)
choice_finds g p r worker few many =
    let found = chosen_is g p r worker g.limits.beta_low few many in
    let clear = open_parts (has r.known (chosen_job g p r)) (has r.tried (chosen_job g p r)) found.passes in
    (record { low = found.low; high = found.high }, and_from _ _ found.passes (eq-eqb _ _ found.rank), clear.0, clear.1)

-- if all pass, the i-th is i
number_of_rank_all : (n i : ℕ) → 1 ≤ i → i ≤ n → number_of_rank n (λ _. true) i ≡ i
number_of_rank_all n i low high =
    let all = count_true n in
    let found = ranked_is n (λ _. true) i low (omega arith) in
    sym (count_true (number_of_rank n (λ _. true) i)) ∙ found.rank

-- the first choice is the job of the wanted rank among all
pub first_choice : (g : Givens) (p : ℕ) → IsWorker g p → g.beta ≤ g.jobs → (first_record g p).phase ≡ Announcing (chosen_rank g p g.jobs)
first_choice g p worker enough =
    ap (λ b. (if b then record (empty_record g) { phase = Over } else record (empty_record g) { phase = Announcing (chosen_job g p (empty_record g)); tried = [] }).phase)
    (le-ltb (count g.jobs (λ _. true)) g.beta (let all = count_true g.jobs in omega arith))
    ∙ ap Announcing (ap (λ k. number_of_rank g.jobs (λ _. true) (chosen_rank g p k)) (count_true g.jobs)
    ∙ number_of_rank_all g.jobs (chosen_rank g p g.jobs) within.0 within.1)
  where
    within : (1 ≤ chosen_rank g p g.jobs) × (chosen_rank g p g.jobs ≤ g.jobs)
    within = rank_within g p g.jobs g.jobs worker (omega arith) (let low = g.limits.beta_low in omega arith)

-- with fewer jobs than the threshold there is no first choice
pub first_over : (g : Givens) (p : ℕ) → g.jobs < g.beta → (first_record g p).phase ≡ Over
first_over g p few =
    ap (λ b. (if b then record (empty_record g) { phase = Over } else record (empty_record g) { phase = Announcing (chosen_job g p (empty_record g)); tried = [] }).phase)
    (lt-ltb (count g.jobs (λ _. true)) g.beta (let all = count_true g.jobs in omega arith))

-- a share grows with the worker's number
share_grows : (a b spread m : ℕ) → 0 < m → m ≤ spread → a < b → a * spread / m < b * spread / m
share_grows a b spread m some wide less =
    let up : a * spread + spread ≤ b * spread = grind arith in
    let part = div-mul-le_self (a * spread) m in
    let next : a * spread / m + 1 ≤ b * spread / m = le-div (a * spread / m + 1) (b * spread) m some (omega arith) in
    omega arith

-- first choices rise with the worker's number
pub ranks_rise : (g : Givens) (p q free : ℕ) → IsWorker g p → IsWorker g q → p < q → chosen_rank g p free < chosen_rank g q free
ranks_rise g p q free low high less = go (nat_le g.workers (free - (g.workers - 1))) refl
  where
    go : (b : Bool) → nat_le g.workers (free - (g.workers - 1)) ≡ b
        → (if b then (p - 1) * (free - (g.workers - 1)) / g.workers + 1 else p) < (if b then (q - 1) * (free - (g.workers - 1)) / g.workers + 1 else q)
    go true e =
        let wide : g.workers ≤ free - (g.workers - 1) = leb-true _ _ e in
        let first = low.low in
        let some = g.limits.some in
        let grows = share_grows (p - 1) (q - 1) (free - (g.workers - 1)) g.workers (omega arith) wide (omega arith) in
        omega arith
    go false e = less
