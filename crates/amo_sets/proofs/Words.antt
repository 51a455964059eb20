-- The bits of words: their number in a word, and a word with one bit written.
use Rattle.std.proofs.Common.{⊎_elim, ◌≡◌, ◌≢◌, ℕ, zero, suc, ◌+◌, ◌*◌, ◌/◌, ◌%◌, ◌^◌, ◌<◌, ◌≤◌, Bool, true, false, List, length, get_or, set, replicate, refl, sym, ap, ◌∙◌, arith, add_comm, add-suc, bit_and, bit_or, w64}
use Rattle.std.specs.Prelude.{◌==◌, if◌then◌else◌}
use Rattle.std.specs.Int.{bit_not}
use Rattle.std.specs.Int.Count.{ones}
use Rattle.std.specs.Int.RustNames.{count_ones}
use Rattle.std.proofs.Math.Nat.{pow-suc}
use Rattle.std.proofs.lemmas.Nat.{shr_split, ones_cat, pow_pos}
use Rattle.std.proofs.lemmas.Nat.Bits.{bit_at-zero, bit_at_cat_low, bit_at_set_same, bit_at_set_other, bit_at_clear_same, bit_at_clear_other}
use Rattle.std.proofs.lemmas.List.{get_or-set_same, get_or-set_other}
use Rattle.std.proofs.lemmas.Bool.{cases_eq}
use Rattle.amo_sets.specs.Bits.{is_one, bit}
use Rattle.amo_sets.proofs.Tally.{tally, tally-zero, tally-suc, tally-add, tally_same}

-- how many bits of a word are 1

zero_of : (w : ℕ) → w < 2 ^ 0 → w ≡ 0
zero_of w h = omega arith

low_of : (w k : ℕ) → w % 2 ^ k < 2 ^ k
low_of w k = let p : zero < 2 ^ k = pow_pos k in omega arith

high_of : (q m w : ℕ) → q * m ≤ w → w < m * 2 → q < 2
high_of zero m w a b = omega arith
high_of (suc zero) m w a b = omega arith
high_of (suc (suc q)) m w a b = absurd (grind arith)

high_bit : (w k : ℕ) → w < 2 ^ suc k → w / 2 ^ k < 2
high_bit w k h =
    let d : w / 2 ^ k * 2 ^ k + w % 2 ^ k ≡ w = shr_split w k in
    let p : 2 ^ suc k ≡ 2 ^ k * 2 = pow-suc 2 k in
    let pos : zero < 2 ^ k = pow_pos k in
    high_of (w / 2 ^ k) (2 ^ k) w (omega (arith, d)) (omega arith)

two : (d : ℕ) → d < 2 → (if d % 2 == 1 then 1 else 0) ≡ ones d
unfolding count_ones
two zero h = refl
two (suc zero) h = refl
two (suc (suc d)) h = absurd (omega arith)

is_one_low : (q k r j : ℕ) → 1 ≤ j → j ≤ k → is_one (q * 2 ^ k + r) j ≡ is_one r j
is_one_low q k r zero l h = refl
is_one_low q k r (suc i) l h = ap (λ (b : ℕ). b == 1) (bit_at_cat_low q k r i (omega arith))

-- the bits of a number of k bits that are 1, counted
pub tally_ones : (k w : ℕ) → w < 2 ^ k → tally k (is_one w) ≡ ones w
unfolding count_ones
tally_ones zero w h = tally-zero (is_one w) ∙ sym (ap ones (zero_of w h))
tally_ones (suc k) w h =
    let q : ℕ = w / 2 ^ k in
    let r : ℕ = w % 2 ^ k in
    let split : q * 2 ^ k + r ≡ w = shr_split w k in
    let low : tally k (is_one w) ≡ tally k (is_one r) = tally_same k (is_one w) (is_one r) (λ j l m. ap (λ (v : ℕ). is_one v j) (sym split) ∙ is_one_low q k r j l m) in
    let small : r < 2 ^ k = low_of w k in
    tally-suc k (is_one w) ∙ (λ i. (low ∙ tally_ones k r small) i + two q (high_bit w k h) i) ∙ add_comm (ones r) (ones q) ∙ sym (ones_cat k q r small) ∙ ap ones split

-- job 64 q + r is bit r of word q

div_of : (q r : ℕ) → r < 64 → (64 * q + r) / 64 ≡ q
div_of q r lt = omega arith

mod_of : (q r : ℕ) → r < 64 → (64 * q + r) % 64 ≡ r
mod_of q r lt = omega arith

pub bit_in : (ws : List ℕ) (q r : ℕ) → 1 ≤ r → r ≤ 64 → bit ws (64 * q + r) ≡ is_one (get_or ws q 0) r
bit_in ws q zero l h = absurd (omega arith)
bit_in ws q (suc r) l h = ap (bit ws) (add-suc (64 * q) r) ∙ (λ i. is_one (get_or ws (div_of q r (omega arith) i) 0) (suc (mod_of q r (omega arith) i)))

-- one word more
pub word_step : (t : ℕ → Bool) (w q : ℕ) → ((r : ℕ) → 1 ≤ r → r ≤ 64 → t (64 * q + r) ≡ is_one w r) → w < 2 ^ 64 → tally (64 * (q + 1)) t ≡ tally (64 * q) t + ones w
word_step t w q same fits =
    let e : 64 * (q + 1) ≡ 64 * q + 64 = omega arith in
    ap (λ (n : ℕ). tally n t) e ∙ tally-add (64 * q) 64 t ∙ ap (λ (m : ℕ). tally (64 * q) t + m) (tally_same 64 (λ r. t (64 * q + r)) (is_one w) same ∙ tally_ones 64 w fits)

-- words of which each is 0 have no bit that is 1

get_or-zeros : (n q : ℕ) → ◌≡◌ {A = ℕ} (get_or (replicate n 0) q 0) 0
get_or-zeros zero q = refl
get_or-zeros (suc n) zero = refl
get_or-zeros (suc n) (suc q) = get_or-zeros n q

pub bit-zeros : (ws : List ℕ) (n : ℕ) → ws ≡ replicate n 0 → (j : ℕ) → bit ws j ≡ false
bit-zeros ws n e zero = refl
bit-zeros ws n e (suc k) = ap (λ (l : List ℕ). is_one (get_or l (k / 64) 0) (suc (k % 64))) e ∙ ap (λ (w : ℕ). is_one w (suc (k % 64))) (get_or-zeros n (k / 64)) ∙ ap (λ (b : ℕ). b == 1) (bit_at-zero (k % 64))

-- a word with the bit of this place written, and the others as they were
pub record IsWritten (old new place : ℕ) (value : Bool) : Type 0 where
  pub is : is_one new place ≡ value
  pub others : (r : ℕ) → 1 ≤ r → r ≤ 64 → r ≢ place → is_one new r ≡ is_one old r

pub written_set : (w r : ℕ) → r < 64 → IsWritten w (bit_or w (1 * 2 ^ r % 2 ^ 64)) (suc r) true
written_set w r lt = record { is = ap (λ (b : ℕ). b == 1) (bit_at_set_same w64 w r lt); others = others }
  where
    others : (i : ℕ) → 1 ≤ i → i ≤ 64 → i ≢ suc r → is_one (bit_or w (1 * 2 ^ r % 2 ^ 64)) i ≡ is_one w i
    others zero l h ne = refl
    others (suc i) l h ne = ap (λ (b : ℕ). b == 1) (bit_at_set_other w64 w r lt i (λ e. ne (ap suc e)))

pub written_cleared : (w r : ℕ) → r < 64 → IsWritten w (bit_and w (bit_not w64 (1 * 2 ^ r % 2 ^ 64))) (suc r) false
written_cleared w r lt = record { is = ap (λ (b : ℕ). b == 1) (bit_at_clear_same w64 w r lt); others = others }
  where
    others : (i : ℕ) → 1 ≤ i → i ≤ 64 → i ≢ suc r → is_one (bit_and w (bit_not w64 (1 * 2 ^ r % 2 ^ 64))) i ≡ is_one w i
    others zero l h ne = refl
    others (suc i) l h ne = ap (λ (b : ℕ). b == 1) (bit_at_clear_other w64 w r lt i (omega arith) (λ e. ne (ap suc e)))

-- the job whose bit was written, and the others
pub bit_written : (ws : List ℕ) (k w : ℕ) (v : Bool) → k / 64 < length ws → IsWritten (get_or ws (k / 64) 0) w (suc (k % 64)) v → bit (set ws (k / 64) w) (suc k) ≡ v
bit_written ws k w v lt is = ap (λ (x : ℕ). is_one x (suc (k % 64))) (get_or-set_same ws (k / 64) w 0 lt) ∙ is.is

pub bit_kept : (ws : List ℕ) (k w : ℕ) (v : Bool) → k / 64 < length ws → IsWritten (get_or ws (k / 64) 0) w (suc (k % 64)) v → (j : ℕ) → j ≢ suc k → bit (set ws (k / 64) w) j ≡ bit ws j
bit_kept ws k w v lt is zero ne = refl
bit_kept ws k w v lt is (suc i) ne = ⊎_elim
    (λ (e : i / 64 ≡ k / 64).
    let n : suc (i % 64) ≢ suc (k % 64) = λ same. ne (omega arith) in
    ap (λ (q : ℕ). is_one (get_or (set ws (k / 64) w) q 0) (suc (i % 64))) e ∙ ap (λ (x : ℕ). is_one x (suc (i % 64))) (get_or-set_same ws (k / 64) w 0 lt)
    ∙ is.others (suc (i % 64)) (omega arith) (omega arith) n ∙ ap (λ (q : ℕ). is_one (get_or ws q 0) (suc (i % 64))) (sym e))
    (λ (n : i / 64 ≢ k / 64). ap (λ (x : ℕ). is_one x (suc (i % 64))) (get_or-set_other ws (k / 64) (i / 64) w 0 n))
    (cases_eq (i / 64) (k / 64))
