-- Words whose first n bits are 1, and no others.
use Rattle.std.proofs.Common.{⊎_elim, ◌≡◌, ◌≢◌, ℕ, zero, suc, ◌+◌, ◌-◌, ◌/◌, ◌%◌, ◌^◌, ◌<◌, ◌≤◌, true, false, List, length, get_or, set, replicate, ap, ◌∙◌, arith}
use Rattle.std.specs.Int.{bit_at}
use Rattle.std.proofs.lemmas.Nat.Bits.{bit_at-zero, bit_at_ones, bit_at_ones_above}
use Rattle.std.proofs.lemmas.List.{get_or-set_same, get_or-set_other, get_or-replicate, get_or_past, length-replicate, length-set}
use Rattle.std.proofs.lemmas.Bool.{cases_eq, eq-eqb, ne_eqb}
use Rattle.amo_sets.specs.Bits.{is_one, bit}

-- bits 1..n are 1, and no others
pub record IsFull (n : ℕ) (ws : List ℕ) : Type 0 where
  pub inside : (j : ℕ) → 1 ≤ j → j ≤ n → bit ws j ≡ true
  pub outside : (j : ℕ) → n < j → bit ws j ≡ false

-- how many words
abbrev size : ℕ → ℕ
size n = (n + 63) / 64

abbrev filled : ℕ → List ℕ
filled n = replicate (size n) (2 ^ 64 - 1)

-- bit i of a word among words, if it is 1 and if it is 0
bit_one : (ws : List ℕ) (i w : ℕ) → get_or ws (i / 64) 0 ≡ w → bit_at w (i % 64) ≡ 1 → bit ws (suc i) ≡ true
bit_one ws i w e one = ap (λ (v : ℕ). is_one v (suc (i % 64))) e ∙ eq-eqb (bit_at w (i % 64)) 1 one

bit_none : (ws : List ℕ) (i w : ℕ) → get_or ws (i / 64) 0 ≡ w → bit_at w (i % 64) ≡ 0 → bit ws (suc i) ≡ false
bit_none ws i w e none = ap (λ (v : ℕ). is_one v (suc (i % 64))) e ∙ ne_eqb (bit_at w (i % 64)) 1 (λ one. omega arith)

filled_at : (n q : ℕ) → q < size n → get_or (filled n) q 0 ≡ 2 ^ 64 - 1
filled_at n q lt = get_or-replicate (size n) q (2 ^ 64 - 1) 0 lt

past : (n : ℕ) (ws : List ℕ) (i : ℕ) → length ws ≡ size n → size n ≤ i / 64 → bit ws (suc i) ≡ false
past n ws i len le = bit_none ws i 0 (get_or_past ws (i / 64) 0 (omega arith)) (bit_at-zero (i % 64))

-- where n is a multiple of 64
pub filled_full : (n : ℕ) (ws : List ℕ) → ws ≡ replicate ((n + 63) / 64) (2 ^ 64 - 1) → n % 64 ≡ 0 → IsFull n ws
filled_full n ws is whole = record { inside = inside; outside = outside }
  where
    inside : (j : ℕ) → 1 ≤ j → j ≤ n → bit ws j ≡ true
    inside zero l h = absurd (omega arith)
    inside (suc i) l h = bit_one ws i (2 ^ 64 - 1) (ap (λ (v : List ℕ). get_or v (i / 64) 0) is ∙ filled_at n (i / 64) (omega arith)) (bit_at_ones 64 (i % 64) (omega arith))

    outside : (j : ℕ) → n < j → bit ws j ≡ false
    outside zero h = absurd (omega arith)
    outside (suc i) h = past n ws i (ap (λ (v : List ℕ). length v) is ∙ length-replicate (size n) (2 ^ 64 - 1)) (omega arith)

-- and if the last word has fewer bits
pub trimmed_full : (n : ℕ) (ws : List ℕ) (w : ℕ) → ws ≡ replicate ((n + 63) / 64) (2 ^ 64 - 1) → n % 64 ≢ 0 → w ≡ 2 ^ (n % 64) - 1 → IsFull n (set ws (n / 64) w)
trimmed_full n ws w is ne last = record { inside = inside; outside = outside }
  where
    len : length ws ≡ size n
    len = ap (λ (v : List ℕ). length v) is ∙ length-replicate (size n) (2 ^ 64 - 1)

    here : (i : ℕ) → i / 64 ≡ n / 64 → get_or (set ws (n / 64) w) (i / 64) 0 ≡ 2 ^ (n % 64) - 1
    here i e = ap (λ (q : ℕ). get_or (set ws (n / 64) w) q 0) e ∙ get_or-set_same ws (n / 64) w 0 (omega (arith, len)) ∙ last

    other : (i : ℕ) → i / 64 ≢ n / 64 → i / 64 < size n → get_or (set ws (n / 64) w) (i / 64) 0 ≡ 2 ^ 64 - 1
    other i differs lt = get_or-set_other ws (n / 64) (i / 64) w 0 differs ∙ ap (λ (v : List ℕ). get_or v (i / 64) 0) is ∙ filled_at n (i / 64) lt

    inside : (j : ℕ) → 1 ≤ j → j ≤ n → bit (set ws (n / 64) w) j ≡ true
    inside zero l h = absurd (omega arith)
    inside (suc i) l h = ⊎_elim
        (λ (e : i / 64 ≡ n / 64). bit_one (set ws (n / 64) w) i (2 ^ (n % 64) - 1) (here i e) (bit_at_ones (n % 64) (i % 64) (omega arith)))
        (λ (d : i / 64 ≢ n / 64). bit_one (set ws (n / 64) w) i (2 ^ 64 - 1) (other i d (omega arith)) (bit_at_ones 64 (i % 64) (omega arith)))
        (cases_eq (i / 64) (n / 64))

    outside : (j : ℕ) → n < j → bit (set ws (n / 64) w) j ≡ false
    outside zero h = absurd (omega arith)
    outside (suc i) h = ⊎_elim
        (λ (e : i / 64 ≡ n / 64). bit_none (set ws (n / 64) w) i (2 ^ (n % 64) - 1) (here i e) (bit_at_ones_above (n % 64) (i % 64) (omega arith)))
        (λ (d : i / 64 ≢ n / 64). past n (set ws (n / 64) w) i (length-set ws (n / 64) w ∙ len) (omega arith))
        (cases_eq (i / 64) (n / 64))
