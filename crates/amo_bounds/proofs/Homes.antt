-- If many jobs are free, each worker that knows the done jobs chooses in a stretch of its own: its
-- home.
use Rattle.std.proofs.Common.{◌≡◌, ◌⊎◌, ⊎_elim, ℕ, ◌+◌, ◌-◌, ◌*◌, ◌/◌, ◌<◌, ◌≤◌, Bool, true, false, not, length, refl, sym, ap, ◌∙◌, arith}
use Rattle.std.specs.Prelude.{nat_le, if◌then◌else◌}
use Rattle.std.proofs.lemmas.Bool.{cases_lt, leb-false}
use Rattle.std.proofs.lemmas.Nat.{le-div}
use Rattle.std.proofs.Math.Nat.{div-mul-le_self}
use Rattle.amo_sets.specs.Sets.{has}
use Rattle.amo_sets.specs.Rank.{count}
use Rattle.amo_sets.proofs.Numbers.{count_le, count_without, count_has, IsRanked}
use Rattle.amo_sets.proofs.Tally.{count_same}
use Rattle.amo_params.specs.Givens.{IsJob, IsWorker}
use Rattle.amo_kk.specs.Record.{is_free, is_open}
use Rattle.amo_kk.specs.Choice.{chosen_rank, chosen_job}
use Rattle.amo_params.specs.declared.givens.Givens.{Givens}
use Rattle.amo_kk.specs.declared.model.Record.{Record}
use Rattle.amo_kk.proofs.Choice.{open_parts, chosen_is}
use Rattle.amo_bounds.specs.Turns.{width}

-- job v is at home with p, where these jobs are free: its place among them is one that p may choose
-- that knows all of it
pub record IsHome (g : Givens) (free : ℕ → Bool) (p v : ℕ) : Type 0 where
  pub job : IsJob g v
  pub free_is : free v ≡ true
  pub low : chosen_rank g p (count g.jobs free) ≤ count v free
  pub high : count v free < chosen_rank g p (count g.jobs free) + g.workers
  pub wide : width g ≤ count g.jobs free

-- a share grows by m, where what is shared is m m or more
share_grows : (a b spread m : ℕ) → 0 < m → m * m ≤ spread → a < b → a * spread / m + m ≤ b * spread / m
share_grows a b spread m some wide less =
    let up : a * spread + spread ≤ b * spread = grind arith in
    let part = div-mul-le_self (a * spread) m in
    let more : (a * spread / m + m) * m ≡ a * spread / m * m + m * m = grind arith in
    le-div (a * spread / m + m) (b * spread) m some (omega arith)

ranks_apart : (g : Givens) (p q free : ℕ) → IsWorker g p → IsWorker g q → width g ≤ free → p < q → chosen_rank g p free + g.workers ≤ chosen_rank g q free
ranks_apart g p q free low high wide less = go (nat_le g.workers (free - (g.workers - 1))) refl
  where
    some : 1 ≤ g.workers
    some = g.limits.some

    square : g.workers ≤ g.workers * g.workers
    square = grind arith

    go : (b : Bool) → nat_le g.workers (free - (g.workers - 1)) ≡ b
        → (if b then (p - 1) * (free - (g.workers - 1)) / g.workers + 1 else p) + g.workers ≤ (if b then (q - 1) * (free - (g.workers - 1)) / g.workers + 1 else q)
    go true e =
        let first = low.low in
        let one = some in
        let two = square in
        let grows = share_grows (p - 1) (q - 1) (free - (g.workers - 1)) g.workers (omega arith) (omega arith) (omega arith) in
        omega arith
    go false e = let few = leb-false _ _ e in let one = some in let two = square in absurd (omega arith)

-- homes are apart
pub one_home : (g : Givens) (free : ℕ → Bool) (p q v : ℕ) → IsWorker g p → IsWorker g q → IsHome g free p v → IsHome g free q v → p ≡ q
one_home g free p q v o i a b = ⊎_elim
    (λ (l : p < q). let r = ranks_apart g p q (count g.jobs free) o i a.wide l in let x = a.high in let y = b.low in absurd (omega arith))
    (λ (m : q ≤ p). ⊎_elim
    (λ (l : q < p). let r = ranks_apart g q p (count g.jobs free) i o a.wide l in let x = b.high in let y = a.low in absurd (omega arith))
    (λ l. omega arith)
    (cases_lt q p))
    (cases_lt p q)

-- whoever knows just what isn't free, and chooses, chooses at home
pub chosen_home : (g : Givens) (free : ℕ → Bool) (p : ℕ) (r : Record) → IsWorker g p → length r.tried < g.workers → g.beta ≤ count g.jobs (is_open r)
    → (width g ≤ g.beta) ⊎ (width g ≤ count g.jobs free)
    → ((j : ℕ) → IsJob g j → is_free r j ≡ free j) → IsHome g free p (chosen_job g p r)
chosen_home g free p r o few many room knows =
    record {
      job = record { low = c.low; high = c.high };
      free_is = sym (knows (chosen_job g p r) (record { low = c.low; high = c.high })) ∙ ap not clear.0;
      low = let a = count_le (is_open r) (is_free r) (λ k h. ap not (open_parts _ _ h).0) (chosen_job g p r) in let b = c.rank in let x = below in let y = rank in omega arith;
      high = let a = count_without (has r.known) (has r.tried) (chosen_job g p r) in let d = count_has r.tried (chosen_job g p r) in let b = c.rank in let x = below in let y = rank in omega arith;
      wide = ⊎_elim (λ w. let a = count_le (is_open r) (is_free r) (λ k h. ap not (open_parts _ _ h).0) g.jobs in let x = all in omega arith) (λ w. w) room;
    }
  where
    c : IsRanked g.jobs (is_open r) (chosen_rank g p (count g.jobs (is_free r))) (chosen_job g p r)
    c = chosen_is g p r o g.limits.beta_low few many

    clear : (has r.known (chosen_job g p r) ≡ false) × (has r.tried (chosen_job g p r) ≡ false)
    clear = open_parts _ _ c.passes

    all : count g.jobs (is_free r) ≡ count g.jobs free
    all = count_same g.jobs (is_free r) free (λ j a b. knows j (record { low = a; high = b }))

    below : count (chosen_job g p r) (is_free r) ≡ count (chosen_job g p r) free
    below = count_same (chosen_job g p r) (is_free r) free (λ j a b. knows j (record { low = a; high = let h = c.high in omega arith }))

    rank : chosen_rank g p (count g.jobs (is_free r)) ≡ chosen_rank g p (count g.jobs free)
    rank = ap (chosen_rank g p) all
