-- The numbers among the words: each is the number whose decimal digits its text is.
use Rattle.std.proofs.Common.{◌≡◌, ◌≤◌, ◌↔◌, ℕ, List, Option, Some, None, ap, arith}
use Rattle.std.specs.Prelude.{option_and_then}
use Rattle.std.specs.Fmt.{decimal}
use Rattle.amo_plan.specs.declared.limits.TheConstants.{HIGHEST_NUMBER}
use Rattle.amo_decimal.specs.Numbers.{number_in}
use Rattle.amo_plan.specs.Digits.{within}
use Rattle.amo_plan.proofs.DigitsLemmas.{within_is_decimal}

-- the law of the numbers of a range, of a text that may be absent
pub at_is_decimal : (low high : ℕ) (text : Option (List ℕ)) (k : ℕ) → high ≤ HIGHEST_NUMBER → within low high (option_and_then number_in text) ≡ Some k ↔ (text ≡ Some (decimal k)) × (low ≤ k) × (k ≤ high)
at_is_decimal low high None k small = (λ e. absurd cc, λ h. let e : None ≡ Some (decimal k) = h.0 in absurd cc)
at_is_decimal low high (Some text) k small =
    let law : within low high (number_in text) ≡ Some k ↔ (text ≡ decimal k) × (low ≤ k) × (k ≤ high) = within_is_decimal low high text k (omega arith) in
    (λ e. let (is, many, few) = law.0 e in (ap Some is, many, few), λ h. let is : text ≡ decimal k = cc in law.1 (is, h.1, h.2))
