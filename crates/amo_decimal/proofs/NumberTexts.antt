-- The texts that std reads as a number, and the text that is printed of a number.
use Rattle.std.proofs.Common.{◌≡◌, ◌≢◌, ◌↔◌, ◌⊎◌, inl, ⊎_elim, ℕ, zero, suc, ◌^◌, ◌<◌, Bool, true, false, cond, ◌&&◌, List, [], ◌∷◌, length, get_or, Option, Some, None, Result, Ok, Err, refl, sym, ap, subst, ◌∙◌, arith}
use Rattle.std.specs.Prelude.{nat_lt, ◌||◌, ◌==◌}
use Rattle.std.specs.Result.{result_ok}
use Rattle.std.specs.Fmt.{decimal}
use Rattle.std.specs.Str.{all_ascii_digits, IsAscii, IsUtf8}
use Rattle.std.specs.Str.Parse.{digits_value, ParsesUnsigned}
use Rattle.std.proofs.lemmas.Bool.{and_from, and_parts}
use Rattle.std.proofs.lemmas.Bool.Decides.{nat_tests}
use Rattle.std.proofs.lemmas.Str.Parse.{IsNumeralModel, numerals_by_value, tells_all_ascii_digits, parse_plain}
use Rattle.std.proofs.lemmas.Fmt.{decimal_digit, first_decimal, digits_decimal, digits_value-decimal, decimal-digits_value, IsAscii-decimal}
use Rattle.std.proofs.lemmas.Str.{IsUtf8-from_ascii}
use Rattle.amo_decimal.specs.Numbers.{begins_strictly, is_number, number_in}

pub own : IsNumeralModel (λ ds. all_ascii_digits ds ≡ true) (digits_value 10)
own = numerals_by_value (λ ds. all_ascii_digits ds ≡ true) tells_all_ascii_digits

is_less : (a b : ℕ) → nat_lt a b ≡ true → a < b
is_less a b h = grind (arith, nat_tests)

less_is : (a b : ℕ) → a < b → nat_lt a b ≡ true
less_is a b h = grind (arith, nat_tests)

-- a text that begins strictly begins with a digit, or with another byte than a plus
front_of : (a n : ℕ) → (nat_lt 48 a || ((a == 48) && (n == 1))) ≡ true → (48 < a) ⊎ ((a ≡ 48) × (n ≡ 1))
front_of a n h = grind (arith, nat_tests)

front_from : (a n : ℕ) → (48 < a) ⊎ ((a ≡ 48) × (n ≡ 1)) → (nat_lt 48 a || ((a == 48) && (n == 1))) ≡ true
front_from a n h = grind (arith, nat_tests)

no_plus : (text : List ℕ) → begins_strictly text ≡ true → get_or text 0 0 ≢ 43
no_plus text h = ⊎_elim (λ more. omega arith) (λ same. omega (arith, same.0)) (front_of (get_or text 0 0) (length text) h)

not_empty : (text : List ℕ) → begins_strictly text ≡ true → 0 < length text
not_empty [] h = absurd (cc)
not_empty (c ∷ text) h = omega arith

refused : (text : List ℕ) (b : Bool) → is_number text ≡ b → ¬ ((all_ascii_digits text ≡ true) × (0 < length text) × (digits_value 10 text < 2 ^ 64)) → None ≡ cond b (Some (digits_value 10 text)) None
refused text false e never = refl
refused text true e never =
    let parts = and_parts (begins_strictly text) (all_ascii_digits text && nat_lt (digits_value 10 text) (2 ^ 64)) e in
    let both = and_parts (all_ascii_digits text) (nat_lt (digits_value 10 text) (2 ^ 64)) parts.1 in
    absurd (never (both.0, not_empty text parts.0, is_less (digits_value 10 text) (2 ^ 64) both.1))

pub number_is : {E : Type 0} (text : List ℕ) (r : Result ℕ E) → begins_strictly text ≡ true → ParsesUnsigned 64 10 text r → result_ok r ≡ number_in text
number_is {E} text (Ok n) strict h =
    let read = parse_plain own {E = E} 64 text (Ok n) h (no_plus text strict) in
    let passes : is_number text ≡ true = and_from (begins_strictly text) (all_ascii_digits text && nat_lt (digits_value 10 text) (2 ^ 64)) strict
    (and_from (all_ascii_digits text) (nat_lt (digits_value 10 text) (2 ^ 64)) read.0.0 (less_is (digits_value 10 text) (2 ^ 64) read.0.2)) in
    ap Some read.1 ∙ ap (λ b. cond b (Some (digits_value 10 text)) None) (sym passes)
number_is {E} text (Err e) strict h = refused text _ refl (parse_plain own {E = E} 64 text (Err e) h (no_plus text strict))

pub number_isnt : (text : List ℕ) → begins_strictly text ≡ false → None ≡ number_in text
number_isnt text h = ap (λ b. cond (b && (all_ascii_digits text && nat_lt (digits_value 10 text) (2 ^ 64))) (Some (digits_value 10 text)) None) (sym h)

-- what is printed is read
pub reads_printed : (n : ℕ) → n < 2 ^ 64 → number_in (decimal n) ≡ Some n
reads_printed n fits =
    let digits = digits_decimal own n fits in
    let value = digits_value-decimal own n fits in
    let passes : is_number (decimal n) ≡ true = and_from (begins_strictly (decimal n)) (all_ascii_digits (decimal n) && nat_lt (digits_value 10 (decimal n)) (2 ^ 64)) (strictly n fits)
    (and_from (all_ascii_digits (decimal n)) (nat_lt (digits_value 10 (decimal n)) (2 ^ 64)) digits (less_is (digits_value 10 (decimal n)) (2 ^ 64) (subst (λ v. v < 2 ^ 64) (sym value) fits))) in
    ap (λ b. cond b (Some (digits_value 10 (decimal n))) None) passes ∙ ap Some value
  where
    strictly : (m : ℕ) → m < 2 ^ 64 → begins_strictly (decimal m) ≡ true
    strictly zero small = ap begins_strictly (decimal_digit 0 (omega arith))
    strictly (suc m) small = front_from (get_or (decimal (suc m)) 0 0) (length (decimal (suc m))) (inl (first_decimal (suc m) (omega arith) small))

-- what is read was printed so
pub printed_of_read : (text : List ℕ) (n : ℕ) → number_in text ≡ Some n → (decimal n ≡ text) × (n < 2 ^ 64)
printed_of_read text n h = by_test _ refl h
  where
    by_test : (b : Bool) → is_number text ≡ b → cond b (Some (digits_value 10 text)) None ≡ Some n → (decimal n ≡ text) × (n < 2 ^ 64)
    by_test false e none = absurd (cc)
    by_test true e some =
        let is : digits_value 10 text ≡ n = cc in
        let parts = and_parts (begins_strictly text) (all_ascii_digits text && nat_lt (digits_value 10 text) (2 ^ 64)) e in
        let both = and_parts (all_ascii_digits text) (nat_lt (digits_value 10 text) (2 ^ 64)) parts.1 in
        let small = is_less (digits_value 10 text) (2 ^ 64) both.1 in
        let front = front_of (get_or text 0 0) (length text) parts.0 in
        let one : get_or text 0 0 ≡ 48 → length text ≡ 1 = λ zero_first. ⊎_elim (λ more. absurd (omega (arith, more, zero_first))) (λ same. same.1) front in
        (ap decimal (sym is) ∙ decimal-digits_value own text both.0 (not_empty text parts.0) one small, subst (λ v. v < 2 ^ 64) is small)

-- a text says a number just if it is that number in decimal digits
pub number_is_decimal : (text : List ℕ) (k : ℕ) → number_in text ≡ Some k ↔ (text ≡ decimal k) × (k < 2 ^ 64)
number_is_decimal text k = (
  λ e. let p = printed_of_read text k e in (sym p.0, p.1),
  λ h. ap number_in h.0 ∙ reads_printed k h.1,
)

-- bytes that are not UTF-8 say no number
pub number_no_text : (bytes : List ℕ) → ¬ (IsUtf8 bytes) → None ≡ number_in bytes
number_no_text bytes never = by_case (number_in bytes) refl
  where
    by_case : (o : Option ℕ) → number_in bytes ≡ o → None ≡ o
    by_case None is = refl
    by_case (Some n) is = let p = printed_of_read bytes n is in absurd (never (IsUtf8-from_ascii bytes (subst IsAscii p.0 (IsAscii-decimal n p.1))))
