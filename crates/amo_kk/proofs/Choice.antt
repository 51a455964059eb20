-- The choice and the check, and the next record from each phase.
use Rattle.std.proofs.Common.{◌≡◌, ◌≢◌, ap, sym, ◌∙◌, subst, ◌++◌, ◌∷◌, ℕ, ◌+◌, ◌-◌, ◌*◌, ◌/◌, ◌<◌, ◌≤◌, Bool, true, false, not, ◌&&◌, [], length, refl, arith}
use Rattle.std.specs.Prelude.{nat_lt, nat_le, ◌==◌, if◌then◌else◌}
use Rattle.std.proofs.lemmas.Bool.Decides.{nat_tests}
use Rattle.std.proofs.lemmas.Bool.{true≢false, ltb-true, ltb-false, leb-true, leb-false}
use Rattle.std.proofs.lemmas.Nat.{div_below}
use Rattle.amo_sets.specs.Lists.{numbered, put}
use Rattle.amo_sets.specs.Sets.{has, with_number}
use Rattle.amo_sets.specs.Rank.{count}
use Rattle.amo_params.specs.Givens.{IsJob, IsWorker, next_other}
use Rattle.amo_kk.specs.Record.{is_free, is_open, is_over, wants_nothing}
use Rattle.amo_kk.specs.Choice.{chosen_rank, chosen_job, record_after_choice, record_after_check}
use Rattle.amo_kk.specs.Step.{with_announced, record_at_row, record_at_announcement, record_after_phase, record_after}
use Rattle.amo_params.specs.declared.givens.Givens.{Givens}
use Rattle.amo_kk.specs.declared.phase.Phase.{Phase}
use Rattle.amo_kk.specs.declared.phase.Phase.TheVariants.{Announcing, Trying, Reading, Claiming, Holding, Over, Left}
use Rattle.amo_kk.specs.declared.model.Record.{Record}
use Rattle.amo_sets.proofs.Numbers.{count_without, count_has, ranked_is, IsRanked}

below_product : (a m s : ℕ) → a < m → 0 < s → a * s < s * m
below_product a m s h l = grind arith

share_below : (a m s : ℕ) → a < m → 0 < s → a * s / m < s
share_below a m s h l = div_below (a * s) m s (omega arith) (below_product a m s h l)

pub rank_within : (g : Givens) (p free left : ℕ) → IsWorker g p → free ≤ left + (g.workers - 1) → g.workers ≤ left → (1 ≤ chosen_rank g p free) × (chosen_rank g p free ≤ left)
rank_within g p free left w few many = go (nat_le g.workers (free - (g.workers - 1))) refl
  where
    low : 1 ≤ p
    low = w.low

    high : p ≤ g.workers
    high = w.high

    go : (b : Bool) → nat_le g.workers (free - (g.workers - 1)) ≡ b
        → (1 ≤ (if b then (p - 1) * (free - (g.workers - 1)) / g.workers + 1 else p))
        × ((if b then (p - 1) * (free - (g.workers - 1)) / g.workers + 1 else p) ≤ left)
    go true e =
        let enough : g.workers ≤ free - (g.workers - 1) = leb-true _ _ e in
        let share = share_below (p - 1) g.workers (free - (g.workers - 1)) (omega arith) (omega arith) in
        (omega arith, omega arith)
    go false e = (low, omega arith)

pub chosen_is : (g : Givens) (p : ℕ) (r : Record) → IsWorker g p → g.workers ≤ g.beta → length r.tried < g.workers → g.beta ≤ count g.jobs (is_open r) → IsRanked g.jobs (is_open r) (chosen_rank g p (count g.jobs (is_free r))) (chosen_job g p r)
chosen_is g p r w b few many =
    let left = count g.jobs (is_open r) in
    let free = count g.jobs (is_free r) in
    let apart : free ≤ left + count g.jobs (has r.tried) = count_without (has r.known) (has r.tried) g.jobs in
    let short = count_has r.tried g.jobs in
    let within = rank_within g p free left w (omega arith) (omega arith) in
    ranked_is g.jobs (is_open r) (chosen_rank g p free) within.0 within.1

pub chosen_is_job : (g : Givens) (p : ℕ) (r : Record) → IsWorker g p → g.workers ≤ g.beta → length r.tried < g.workers → g.beta ≤ count g.jobs (is_open r) → IsJob g (chosen_job g p r)
chosen_is_job g p r w b few many = let c = chosen_is g p r w b few many in record { low = c.low; high = c.high }

-- To show something of a record after a choice, show it of each record that the choice may give.

pub choice_cases : (g : Givens) (p : ℕ) (r : Record) (P : Record → Type 0)
    → (count g.jobs (is_open r) < g.beta → P (record r { phase = Over }))
    → (g.beta ≤ count g.jobs (is_open r) → P (record r { phase = Announcing (chosen_job g p r); tried = [] }))
    → P (record_after_choice g p r)
choice_cases g p r P over goes_on = go (nat_lt (count g.jobs (is_open r)) g.beta) refl
  where
    go : (b : Bool) → nat_lt (count g.jobs (is_open r)) g.beta ≡ b → P (if b then record r { phase = Over } else record r { phase = Announcing (chosen_job g p r); tried = [] })
    go true e = over (ltb-true _ _ e)
    go false e = goes_on (ltb-false _ _ e)

-- an open job is neither known nor tried
pub open_parts : (a b : Bool) → (not a && not b) ≡ true → (a ≡ false) × (b ≡ false)
open_parts a b e = grind arith

pub check_cases : (g : Givens) (p j : ℕ) (r : Record) (P : Record → Type 0)
    → (has r.known j ≡ false → has r.tried j ≡ false → P (record r { phase = Claiming j }))
    → P (record_after_choice g p r)
    → P (record_after_check g p j r)
check_cases g p j r P passes fails = go (is_open r j) refl
  where
    go : (b : Bool) → is_open r j ≡ b → P (if b then record r { phase = Claiming j } else record_after_choice g p r)
    go true e = let h = open_parts _ _ e in passes h.0 h.1
    go false e = fails

pub to_row_cases : (g : Givens) (p j q : ℕ) (r : Record) (P : Record → Type 0)
    → (q ≤ g.workers → P (record r { phase = Reading j q }))
    → (g.workers < q → P (record_after_check g p j r))
    → P (record_at_row g p j q r)
to_row_cases g p j q r P reads checks = go (nat_le q g.workers) refl
  where
    go : (b : Bool) → nat_le q g.workers ≡ b → P (if b then record r { phase = Reading j q } else record_after_check g p j r)
    go true e = reads (leb-true _ _ e)
    go false e = checks (leb-false _ _ e)

pub to_announcement_cases : (g : Givens) (p j q : ℕ) (r : Record) (P : Record → Type 0)
    → (q ≤ g.workers → P (record r { phase = Trying j q }))
    → (g.workers < q → P (record_at_row g p j (next_other p 0) r))
    → P (record_at_announcement g p j q r)
to_announcement_cases g p j q r P tries reads = go (nat_le q g.workers) refl
  where
    go : (b : Bool) → nat_le q g.workers ≡ b → P (if b then record r { phase = Trying j q } else record_at_row g p j (next_other p 0) r)
    go true e = tries (leb-true _ _ e)
    go false e = reads (leb-false _ _ e)

-- After a step of a worker that wants something, only who is over wants nothing.
pub after_rests : (g : Givens) (p v : ℕ) (r : Record) → wants_nothing r.phase ≡ false → wants_nothing (record_after g p v r).phase ≡ is_over (record_after g p v r).phase
after_rests g p v r wants = go r.phase refl
  where
    Rests : Record → Type 0
    Rests x = wants_nothing x.phase ≡ is_over x.phase

    choose : (x : Record) → Rests (record_after_choice g p x)
    choose x = choice_cases g p x Rests (λ _. refl) (λ _. refl)

    look : (j : ℕ) (x : Record) → Rests (record_after_check g p j x)
    look j x = check_cases g p j x Rests (λ _ _. refl) (choose x)

    row : (j q : ℕ) (x : Record) → Rests (record_at_row g p j q x)
    row j q x = to_row_cases g p j q x Rests (λ _. refl) (λ _. look j x)

    announcement : (j q : ℕ) (x : Record) → Rests (record_at_announcement g p j q x)
    announcement j q x = to_announcement_cases g p j q x Rests (λ _. refl) (λ _. row j (next_other p 0) x)

    go : (phase : Phase) → r.phase ≡ phase → Rests (record_after_phase g p v r r.phase)
    go (Announcing j) is = subst (λ x. Rests (record_after_phase g p v r x)) (sym is) (announcement j (next_other p 0) r)
    go (Trying j q) is = subst (λ x. Rests (record_after_phase g p v r x)) (sym is) (announcement j (next_other p q) (record r { tried = with_announced v r.tried }))
    go (Reading j q) is = subst (λ x. Rests (record_after_phase g p v r x)) (sym is) (read (v == 0))
      where
        read : (b : Bool) → Rests (if b then record_at_row g p j (next_other p q) r else record r { known = with_number v r.known; fronts = put r.fronts q (numbered 0 r.fronts q + 1) })
        read true = row j (next_other p q) r
        read false = ap wants_nothing is ∙ sym (ap is_over is)
    go (Claiming j) is = subst (λ x. Rests (record_after_phase g p v r x)) (sym is) refl
    go (Holding j) is = subst (λ x. Rests (record_after_phase g p v r x)) (sym is) (choose (record r { dones = r.dones ++ j ∷ []; known = with_number j r.known }))
    go Over is = subst (λ x. Rests (record_after_phase g p v r x)) (sym is) (ap wants_nothing is ∙ sym (ap is_over is))
    go Left is = absurd (true≢false (sym (ap wants_nothing is) ∙ wants))

-- the order of the others

pub next_other_differs : (p q : ℕ) → next_other p q ≢ p
next_other_differs p q = grind (arith, nat_tests)

pub next_other_above : (p q : ℕ) → q < next_other p q
next_other_above p q = grind (arith, nat_tests)

-- no other stands between
pub next_other_next : (p q i : ℕ) → i ≢ p → i < next_other p q → i ≤ q
next_other_next p q i n h = grind (arith, nat_tests)
