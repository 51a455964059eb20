-- The members of one set that another lacks, counted and ranked word by word.
use Rattle.std.proofs.Common.{⊎_elim, ◌≡◌, ℕ, zero, suc, ◌+◌, ◌-◌, ◌*◌, ◌/◌, ◌^◌, ◌<◌, ◌≤◌, Bool, true, false, not, ◌&&◌, List, length, min, refl, sym, ap, ◌∙◌, arith, bit_and, w64}
use Rattle.std.specs.Prelude.{◌==◌}
use Rattle.std.specs.Int.{bit_at, bit_not}
use Rattle.std.specs.Int.Count.{ones}
use Rattle.std.proofs.lemmas.Nat.Bits.{bit_at_and, bit_at_not, bit_at-lt}
use Rattle.std.proofs.lemmas.Bool.{cases_lt, and_parts, eqb-true, true≢false}
use Rattle.amo_sets.specs.Bits.{is_one, is_without}
use Rattle.amo_sets.specs.Lists.{numbered}
use Rattle.amo_sets.specs.Rank.{count, has_rank}
use Rattle.amo_sets.proofs.Numbers.{IsRanked}
use Rattle.amo_sets.proofs.Tables.{numbered_past}
use Rattle.amo_sets.proofs.Tally.{tally, tally_count, tally-add, tally_same, tally_all, tally_le_range}
use Rattle.amo_sets.proofs.Words.{word_step}

two_bits : (a b : ℕ) → a < 2 → b < 2 → (min a (1 - b) == 1) ≡ ((a == 1) && not (b == 1))
two_bits zero zero h k = refl
two_bits zero (suc zero) h k = refl
two_bits (suc zero) zero h k = refl
two_bits (suc zero) (suc zero) h k = refl
two_bits zero (suc (suc b)) h k = absurd (omega arith)
two_bits (suc zero) (suc (suc b)) h k = absurd (omega arith)
two_bits (suc (suc a)) b h k = absurd (omega arith)

-- a bit of `x & !y`
pub and_not_bit : (x y r : ℕ) → y < 2 ^ 64 → 1 ≤ r → r ≤ 64 → is_one (bit_and x (bit_not w64 y)) r ≡ (is_one x r && not (is_one y r))
and_not_bit x y zero fits l h = absurd (omega arith)
and_not_bit x y (suc r) fits l h =
    ap (λ (b : ℕ). b == 1) (bit_at_and x (bit_not w64 y) r ∙ ap (λ (b : ℕ). min (bit_at x r) b) (bit_at_not w64 y r fits (omega arith))) ∙ two_bits (bit_at x r) (bit_at y r) (bit_at-lt x r) (bit_at-lt y r)

-- w has, as its bits, the jobs of word q that are in the first set and not in the second
abbrev pub IsWordOf : (s t : List Bool) (q w : ℕ) → Type 0
IsWordOf s t q w = (r : ℕ) → 1 ≤ r → r ≤ 64 → is_one w r ≡ is_without s t (64 * q + r)

-- no job past the end of the first is in it
past : (s t : List Bool) (j : ℕ) → length s < j → is_without s t j ≡ false
past s t j l = ap (λ x. x && not (numbered false t j)) (numbered_past false s j l)

pub word_counted : (s t : List Bool) (q w : ℕ) → IsWordOf s t q w → w < 2 ^ 64 → tally (64 * (q + 1)) (is_without s t) ≡ tally (64 * q) (is_without s t) + ones w
word_counted s t q w is fits = word_step (is_without s t) w q (λ r l h. sym (is r l h)) fits

pub few_without : (s t : List Bool) (m : ℕ) → tally m (is_without s t) ≤ length s
few_without s t m = tally_le_range (length s) m (is_without s t) (past s t)

-- all words were counted
pub all_without : (s t : List Bool) (q : ℕ) → (length s + 63) / 64 ≤ q → tally (64 * q) (is_without s t) ≡ count (length s) (is_without s t)
all_without s t q le = tally_all (length s) (64 * q) (is_without s t) (past s t) (omega arith) ∙ tally_count (length s) (is_without s t)

-- the rank by words: the words before word q have i - j, and place p of word q has rank j in it
pub rank_is : (s t : List Bool) (q w p i j : ℕ) → IsWordOf s t q w → tally (64 * q) (is_without s t) + j ≡ i → p ≤ 64
    → has_rank (is_one w) j p ≡ true → IsRanked (length s) (is_without s t) i (64 * q + p)
rank_is s t q w p i j is before le ranked =
    let both = and_parts (is_one w p) (count p (is_one w) == j) ranked in
    let low : 1 ≤ p = place w p both.0 in
    let here : is_without s t (64 * q + p) ≡ true = sym (is p low le) ∙ both.0 in
    let in_word : tally p (λ r. is_without s t (64 * q + r)) ≡ j =
    tally_same p (λ r. is_without s t (64 * q + r)) (is_one w) (λ r l h. sym (is r l (omega arith))) ∙ tally_count p (is_one w) ∙ eqb-true (count p (is_one w)) j both.1 in
    let parts = tally-add (64 * q) p (is_without s t) in
    record {
      low = omega arith;
      high = ⊎_elim (λ (l : length s < 64 * q + p). absurd (true≢false (sym here ∙ past s t (64 * q + p) l))) (λ (h : 64 * q + p ≤ length s). h) (cases_lt (length s) (64 * q + p));
      passes = here;
      rank = sym (tally_count (64 * q + p) (is_without s t)) ∙ omega arith;
    }
  where
    place : (w p : ℕ) → is_one w p ≡ true → 1 ≤ p
    place w zero h = absurd (true≢false (sym h))
    place w (suc p) h = omega arith
