-- The facts of a sound record: its jobs are of different lines, and the worker that began it is one
-- of its workers.
use Rattle.std.proofs.Common.{◌≡◌, ℕ, zero, suc, ◌<◌, ◌≤◌, true, ◌&&◌, List, [], ◌∷◌, length, get_or, Some, refl, ap, arith}
use Rattle.std.specs.Prelude.{nat_lt, nat_le}
use Rattle.std.proofs.lemmas.Bool.{and_parts, eqb-true, ltb-true, leb-true}
use Rattle.std.proofs.lemmas.Option.{cond_some}
use Rattle.amo_params.specs.declared.limits.TheConstants.{MAX_WORKERS}
use Rattle.amo_sets.specs.Lists.{numbered}
use Rattle.amo_sets.specs.Sets.{has}
use Rattle.amo_sets.proofs.Numbers.{has-get_or}
use Rattle.amo_run_files.specs.Records.{RecordView, ascends_from, is_sound}
use Rattle.amo_run_files.specs.Rounds.{turn_of, seat_of}
use Rattle.amo_run_safety.specs.Site.{IsNumber}

pub record HasParts (r : RecordView) : Type 0 where
  pub jobs : r.givens.jobs ≡ length r.lines
  pub rises : ascends_from 0 r.lines ≡ true
  pub first : r.first ≤ r.workers
  pub few : r.workers ≤ MAX_WORKERS

pub sound_parts : (r : RecordView) → is_sound r ≡ true → HasParts r
sound_parts r h =
    let whole = and_parts _ _ h in
    let lines = and_parts _ _ whole.0 in
    let few = and_parts _ _ lines.1 in
    let numbers = and_parts _ _ whole.1 in
    let ends = and_parts _ _ numbers.1 in
    let first = and_parts _ _ ends.1 in
    let sharing = and_parts _ _ numbers.0 in
    let workers = and_parts _ _ sharing.1 in
    record { jobs = eqb-true _ _ lines.0; rises = few.1; first = leb-true _ _ first.1; few = leb-true _ _ workers.1 }

rises_above : (low : ℕ) (xs : List ℕ) (k : ℕ) → ascends_from low xs ≡ true → k < length xs → low < get_or xs k 0
rises_above low [] k h lt = absurd (omega arith)
rises_above low (x ∷ xs) zero h lt = ltb-true low x (and_parts (nat_lt low x) (ascends_from x xs) h).0
rises_above low (x ∷ xs) (suc k) h lt =
    let parts = and_parts (nat_lt low x) (ascends_from x xs) h in
    let here = ltb-true low x parts.0 in
    let above = rises_above x xs k parts.1 (omega arith) in
    omega arith

differ : (low : ℕ) (xs : List ℕ) (i k : ℕ) → ascends_from low xs ≡ true → i < length xs → k < length xs → get_or xs i 0 ≡ get_or xs k 0 → i ≡ k
differ low [] i k h a b e = absurd (omega arith)
differ low (x ∷ xs) zero zero h a b e = refl
differ low (x ∷ xs) zero (suc k) h a b e = absurd (let above = rises_above x xs k (and_parts (nat_lt low x) (ascends_from x xs) h).1 (omega arith) in omega arith)
differ low (x ∷ xs) (suc i) zero h a b e = absurd (let above = rises_above x xs i (and_parts (nat_lt low x) (ascends_from x xs) h).1 (omega arith) in omega arith)
differ low (x ∷ xs) (suc i) (suc k) h a b e = ap suc (differ x xs i k (and_parts (nat_lt low x) (ascends_from x xs) h).1 (omega arith) (omega arith) e)

-- two jobs of one line are one
pub one_job : (r : RecordView) → is_sound r ≡ true → (i j : ℕ) → 1 ≤ i → i ≤ r.givens.jobs → 1 ≤ j → j ≤ r.givens.jobs → numbered 0 r.lines i ≡ numbered 0 r.lines j → i ≡ j
one_job r h zero j a b c d e = absurd (omega arith)
one_job r h (suc i) zero a b c d e = absurd (omega arith)
one_job r h (suc i) (suc j) a b c d e =
    let parts = sound_parts r h in
    let all = parts.jobs in
    ap suc (differ 0 r.lines i j parts.rises (omega arith) (omega arith) e)

-- the line of a job stands in the record
pub line_there : (r : RecordView) → is_sound r ≡ true → (j : ℕ) → 1 ≤ j → j ≤ r.givens.jobs → has r.lines (numbered 0 r.lines j) ≡ true
line_there r h zero a b = absurd (omega arith)
line_there r h (suc j) a b = let parts = sound_parts r h in let all = parts.jobs in has-get_or r.lines j (omega arith)

-- who has a seat has a number
pub seated_number : (r : RecordView) → is_sound r ≡ true → (p q : ℕ) → seat_of p r.first r.workers r.givens.workers ≡ Some q → IsNumber p
seated_number r h p q seat =
    let whole = cond_some ((nat_le 1 p && nat_le p r.workers) && nat_le (turn_of p r.first r.workers) r.givens.workers) (turn_of p r.first r.workers) q seat in
    let parts = and_parts _ _ (and_parts _ _ whole.0).0 in
    let low = leb-true 1 p parts.0 in
    let high = leb-true p r.workers parts.1 in
    let few = (sound_parts r h).few in
    record { low = low; high = omega (arith, high, few) }
