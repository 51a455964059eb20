-- The lines that a front of some bytes has, with one byte more.
use Rattle.std.proofs.Common.{◌≡◌, ◌+◌, ◌-◌, ◌<◌, ◌==◌, ℕ, zero, suc, List, [], ◌∷◌, get_or, length, slice_get, Some, take, count_by, arith, ap, subst}
use Rattle.std.proofs.lemmas.Bool.{ne_eqb}
use Rattle.std.proofs.lemmas.List.Sums.{count_by_more_yes, count_by_more_no}

-- the byte ends a line
pub passed_end : (bytes : List ℕ) (i left then count : ℕ) → i < length bytes → get_or bytes i 0 ≡ 10 → (left ≡ 0 → ⊥) → then ≡ left - 1
    → count_by (λ b. b == 10) (take i bytes) + left ≡ count → count_by (λ b. b == 10) (take (i + 1) bytes) + then ≡ count
passed_end bytes i left then count lt is some less lines =
    let more : count_by (λ b. b == 10) (take (i + 1) bytes) ≡ count_by (λ b. b == 10) (take i bytes) + 1 =
    count_by_more_yes (λ b. b == 10) bytes i 0 lt (ap (λ (b : ℕ). b == 10) is) in
    omega (arith, more, some, less, lines)

-- it doesn't
pub passed_other : (bytes : List ℕ) (i left then count : ℕ) → i < length bytes → (get_or bytes i 0 ≡ 10 → ⊥) → then ≡ left
    → count_by (λ b. b == 10) (take i bytes) + left ≡ count → count_by (λ b. b == 10) (take (i + 1) bytes) + then ≡ count
passed_other bytes i left then count lt other same lines =
    let more : count_by (λ b. b == 10) (take (i + 1) bytes) ≡ count_by (λ b. b == 10) (take i bytes) =
    count_by_more_no (λ b. b == 10) bytes i 0 lt (ne_eqb (get_or bytes i 0) 10 other) in
    omega (arith, more, same, lines)

stands : (bytes : List ℕ) (i : ℕ) → i < length bytes → get_or bytes i 0 ≡ 10 → slice_get bytes i ≡ Some 10
stands [] i lt is = absurd (omega (arith, lt))
stands (b ∷ bytes) zero lt is = ap Some is
stands (b ∷ bytes) (suc i) lt is = stands bytes i (omega (arith, lt)) is

-- a line ends there
pub ends_there : (bytes : List ℕ) (i : ℕ) → i < length bytes → get_or bytes i 0 ≡ 10 → slice_get bytes (i + 1 - 1) ≡ Some 10
ends_there bytes i lt is = let same : i ≡ i + 1 - 1 = omega arith in subst (λ (k : ℕ). slice_get bytes k ≡ Some 10) same (stands bytes i lt is)
