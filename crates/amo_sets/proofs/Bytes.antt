-- The bits of a word that are 1, counted byte by byte.
use Rattle.std.proofs.Common.{◌≡◌, ℕ, zero, suc, ◌+◌, ◌/◌, ◌%◌, ◌^◌, ◌<◌, ◌≤◌, sym, ap, ◌∙◌, arith, add-suc}
use Rattle.std.specs.Prelude.{◌==◌}
use Rattle.std.specs.Int.{bit_at}
use Rattle.std.specs.Int.Count.{ones}
use Rattle.std.proofs.lemmas.Nat.{shr_split, shr-shr}
use Rattle.std.proofs.lemmas.Nat.Bits.{bit_at_cat_low}
use Rattle.amo_sets.specs.Bits.{is_one}
use Rattle.amo_sets.specs.Rank.{count}
use Rattle.amo_sets.proofs.Tally.{tally_count, tally-add, tally_same}
use Rattle.amo_sets.proofs.Words.{tally_ones}

-- bit i of the byte at a is bit a + i
bit_of_byte : (w a i : ℕ) → i < 8 → bit_at w (a + i) ≡ bit_at (w / 2 ^ a % 2 ^ 8) i
bit_of_byte w a i lt =
    let v : ℕ = w / 2 ^ a in
    ap (λ (x : ℕ). x % 2) (sym (shr-shr w a i)) ∙ ap (λ (x : ℕ). bit_at x i) (sym (shr_split v 8)) ∙ bit_at_cat_low (v / 2 ^ 8) 8 (v % 2 ^ 8) i lt

same_bit : (w a j : ℕ) → 1 ≤ j → j ≤ 8 → is_one w (a + j) ≡ is_one (w / 2 ^ a % 2 ^ 8) j
same_bit w a zero l h = absurd (omega arith)
same_bit w a (suc i) l h = ap (is_one w) (add-suc a i) ∙ ap (λ (b : ℕ). b == 1) (bit_of_byte w a i (omega arith))

byte_fits : (w a : ℕ) → w / 2 ^ a % 2 ^ 8 < 2 ^ 8
byte_fits w a = omega arith

-- one byte more
pub byte_step : (w a : ℕ) → count (a + 8) (is_one w) ≡ count a (is_one w) + ones (w / 2 ^ a % 2 ^ 8)
byte_step w a =
    sym (tally_count (a + 8) (is_one w)) ∙ tally-add a 8 (is_one w)
    ∙ (λ i. tally_count a (is_one w) i + (tally_same 8 (λ r. is_one w (a + r)) (is_one (w / 2 ^ a % 2 ^ 8)) (same_bit w a) ∙ tally_ones 8 (w / 2 ^ a % 2 ^ 8) (byte_fits w a)) i)
