-- A text is a number of a range exactly if it is that number in decimal digits.
use Rattle.std.proofs.Common.{◌≡◌, ◌↔◌, ℕ, ◌^◌, ◌<◌, ◌≤◌, leb, List, Option, Some, None, refl, sym, ap, ◌∙◌, arith, inl, inr}
use Rattle.std.specs.Fmt.{decimal}
use Rattle.std.proofs.lemmas.Bool.{cases_Bool, leb-true, le-leb}
use Rattle.amo_decimal.specs.Numbers.{number_in}
use Rattle.amo_decimal.proofs.NumberTexts.{printed_of_read, reads_printed}
use Rattle.amo_plan.specs.Digits.{within}
use Rattle.amo_plan.proofs.PassingLemmas.{taken}

-- a text is a number exactly if it is that number in decimal digits
pub number_is_decimal : (text : List ℕ) (k : ℕ) → k < 2 ^ 64 → number_in text ≡ Some k ↔ text ≡ decimal k
number_is_decimal text k small = (λ e. sym (printed_of_read text k e).0, λ is. ap number_in is ∙ reads_printed k small)

-- numbers within a range

pub within_some : (low high k : ℕ) (o : Option ℕ) → within low high o ≡ Some k → (o ≡ Some k) × (low ≤ k) × (k ≤ high)
within_some low high k None e = absurd cc
within_some low high k (Some n) e = elim (cases_Bool (leb n high)) [
  | inl few ↦
      let (many, is) = taken (leb low n) (Some n) k (rw few at e) in
      let same : n ≡ k = cc in
      (is, rw same at (leb-true low n many), rw same at (leb-true n high few))
  | inr over ↦ absurd (cc (rw over at e))
]

is_within : (low high k : ℕ) → low ≤ k → k ≤ high → within low high (Some k) ≡ Some k
is_within low high k many few = rw (le-leb k high few, le-leb low k many) refl

-- a text is a number of a range exactly if it is one in decimal digits
pub within_is_decimal : (low high : ℕ) (text : List ℕ) (k : ℕ) → high < 2 ^ 64 → within low high (number_in text) ≡ Some k ↔ (text ≡ decimal k) × (low ≤ k) × (k ≤ high)
within_is_decimal low high text k small = (
  λ e. let (is, many, few) = within_some low high k (number_in text) e in (sym (printed_of_read text k is).0, many, few),
  λ h. rw (h.0, reads_printed k (omega arith)) (is_within low high k h.1 h.2),
)
