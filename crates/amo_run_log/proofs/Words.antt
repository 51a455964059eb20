-- Words in a text, and two or three numbers: what is printed is read, and what is read was printed
-- so.
use Rattle.std.proofs.Common.{◌≡◌, ◌≢◌, ◌⊎◌, inl, inr, ℕ, ◌+◌, ◌^◌, ◌<◌, Bool, true, false, cond, List, [], ◌∷◌, ◌++◌, length, get_or, take, drop, Option, Some, None, refl, sym, ap, subst, ◌∙◌, arith, append_assoc, length-append}
use Rattle.std.specs.Prelude.{nat_lt, not, ◌==◌, option_and_then}
use Rattle.std.specs.Char.{digit_value}
use Rattle.std.specs.Fmt.{decimal}
use Rattle.std.specs.List.{AllByRecursion, after_first, before_first, position_or_len, list_all}
use Rattle.std.specs.Str.{bytes_eq, IsAscii, IsUtf8}
use Rattle.std.specs.Str.Parse.{AllDigits}
use Rattle.std.proofs.lemmas.Bool.{and_parts}
use Rattle.std.proofs.lemmas.Bool.Decides.{nat_tests}
use Rattle.std.proofs.lemmas.Fmt.{decimal_is_IsNumeral, IsAscii-decimal}
use Rattle.std.proofs.lemmas.List.{take_at, drop_at}
use Rattle.std.proofs.lemmas.List.Sums.{split_at_first, passes_at_first}
use Rattle.std.proofs.lemmas.Slice.Eq.{bytes_eq-Decides}
use Rattle.std.proofs.lemmas.Str.{IsAscii-append}
use Rattle.std.proofs.lemmas.Str.Ascii.{IsAscii-nil, IsAscii-cons}
use Rattle.amo_decimal.specs.Numbers.{number_in}
use Rattle.amo_decimal.proofs.NumberTexts.{reads_printed, printed_of_read}
use Rattle.amo_run_log.specs.Numbers.{has_byte, has_blank, first_word, other_words, two_in, three_in}
use Rattle.amo_run_log.proofs.Readings.{no_text_by, none_some, some_is}

pub equal : (a b : ℕ) → a ≡ b → (a == b) ≡ true
equal a b is = grind (arith, nat_tests)

pub not_equal : (a b : ℕ) → a ≢ b → (a == b) ≡ false
not_equal a b isnt = grind (arith, nat_tests)

-- the byte c is not in the text
abbrev pub Lacks : ℕ → List ℕ → Type 0
Lacks c text = AllByRecursion (λ b. b ≢ c) text

pub lacks_append : (c : ℕ) (xs ys : List ℕ) → Lacks c xs → Lacks c ys → Lacks c (xs ++ ys)
lacks_append c [] ys x y = y
lacks_append c (b ∷ xs) ys x y = (x.0, lacks_append c xs ys x.1 y)

pub lacks_by_test : (c : ℕ) (text : List ℕ) → list_all (λ b. not (b == c)) text ≡ true → Lacks c text
lacks_by_test c [] h = tt
lacks_by_test c (b ∷ text) h =
    let parts = and_parts (not (b == c)) (list_all (λ d. not (d == c)) text) h in
    (differs b parts.0, lacks_by_test c text parts.1)
  where
    differs : (d : ℕ) → not (d == c) ≡ true → d ≢ c
    differs d t = grind (arith, nat_tests)

-- no digit is this byte
abbrev pub IsNoDigit : ℕ → Type 0
IsNoDigit c = nat_lt (digit_value c) 10 ≡ false

digits_without : (c : ℕ) (ds : List ℕ) → IsNoDigit c → AllDigits 10 ds → Lacks c ds
digits_without c [] apart all = tt
digits_without c (d ∷ ds) apart all = (λ is. neither (digit_value c) (subst (λ e. digit_value e < 10) is all.0) apart, digits_without c ds apart all.1)
  where
    neither : (value : ℕ) → value < 10 → nat_lt value 10 ≡ false → ⊥
    neither value low high = grind (arith, nat_tests)

pub decimal_without : (c n : ℕ) → IsNoDigit c → n < 2 ^ 64 → Lacks c (decimal n)
decimal_without c n apart fits = digits_without c (decimal n) apart (decimal_is_IsNumeral n fits).0.1

-- no byte below the digits is one
pub decimal_lacks : (c n : ℕ) → c < 48 → n < 2 ^ 64 → Lacks c (decimal n)
decimal_lacks c n low fits = decimal_without c n (is_none c low) fits
  where
    is_none : (d : ℕ) → d < 48 → nat_lt (digit_value d) 10 ≡ false
    is_none d below = grind (arith, nat_tests)

-- the first place of a byte
pub place : (c : ℕ) (w r : List ℕ) → Lacks c w → position_or_len (λ b. b == c) (w ++ c ∷ r) ≡ length w
place c [] r lacks = ap (λ t. cond (not t) (1 + position_or_len (λ b. b == c) r) 0) (equal c c refl)
place c (b ∷ w) r lacks =
    ap (λ t. cond (not t) (1 + position_or_len (λ b. b == c) (w ++ c ∷ r)) 0) (not_equal b c lacks.0) ∙ omega (arith, place c w r lacks.1)

-- a text that lacks the byte
pub no_place : (c : ℕ) (text : List ℕ) → Lacks c text → has_byte c text ≡ false
no_place c text lacks = not_less (position_or_len (λ b. b == c) text) (length text) (at_end text lacks)
  where
    at_end : (text : List ℕ) → Lacks c text → position_or_len (λ b. b == c) text ≡ length text
    at_end [] lacks = refl
    at_end (b ∷ text) lacks = ap (λ t. cond (not t) (1 + position_or_len (λ b. b == c) text) 0) (not_equal b c lacks.0) ∙ omega (arith, at_end text lacks.1)

    not_less : (a b : ℕ) → a ≡ b → nat_lt a b ≡ false
    not_less a b h = grind (arith, nat_tests)

-- the text is w, this byte, and r, and the byte is not in w
pub record AreParts (c : ℕ) (text w r : List ℕ) : Type 0 where
  pub there : has_byte c text ≡ true
  pub first : before_first (λ b. b == c) text ≡ w
  pub rest : after_first (λ b. b == c) text ≡ r

pub parts : (c : ℕ) (w r : List ℕ) → Lacks c w → AreParts c (w ++ c ∷ r) w r
parts c w r lacks =
    let at : position_or_len (λ b. b == c) (w ++ c ∷ r) ≡ length w = place c w r lacks in
    record {
      there = less_is (position_or_len (λ b. b == c) (w ++ c ∷ r)) (length (w ++ c ∷ r)) (omega (arith, at, length-append w (c ∷ r)));
      first = ap (λ n. take n (w ++ c ∷ r)) at ∙ take_at w (c ∷ r) (length w) refl;
      rest = ap (λ n. drop (n + 1) (w ++ c ∷ r)) at ∙ ap (drop (length w + 1)) (sym (append_assoc w (c ∷ []) r)) ∙ drop_at (w ++ c ∷ []) r (length w + 1) (length-append w (c ∷ []));
    }
  where
    less_is : (a b : ℕ) → a < b → nat_lt a b ≡ true
    less_is a b h = grind (arith, nat_tests)

-- with a blank for the byte
pub record AreWords (text w r : List ℕ) : Type 0 where
  pub blank : has_blank text ≡ true
  pub first : first_word text ≡ w
  pub rest : other_words text ≡ r

pub words : (w r : List ℕ) → Lacks 32 w → AreWords (w ++ 32 ∷ r) w r
words w r lacks = let p : AreParts 32 (w ++ 32 ∷ r) w r = parts 32 w r lacks in record { blank = p.there; first = p.first; rest = p.rest }

-- so what is read of its parts is read of these
pub word_reads : {A : Type 0} (read : List ℕ → List ℕ → Option A) (w r : List ℕ) → list_all (λ b. not (b == 32)) w ≡ true
    → cond (has_blank (w ++ 32 ∷ r)) (read (first_word (w ++ 32 ∷ r)) (other_words (w ++ 32 ∷ r))) None ≡ read w r
word_reads read w r lacks =
    let text = w ++ 32 ∷ r in
    let p : AreWords text w r = words w r (lacks_by_test 32 w lacks) in
    ap (λ t. cond t (read (first_word text) (other_words text)) None) p.blank ∙ ap (λ f. read f (other_words text)) p.first ∙ ap (read w) p.rest

-- a text with this byte is what stands before it first, the byte, and what stands after it
pub split_at : (c : ℕ) (text : List ℕ) → has_byte c text ≡ true → text ≡ before_first (λ b. b == c) text ++ c ∷ after_first (λ b. b == c) text
split_at c text h =
    let at = is_less (position_or_len (λ b. b == c) text) (length text) h in
    split_at_first (λ b. b == c) text 0 at
    ∙ ap (λ n. before_first (λ b. b == c) text ++ n ∷ after_first (λ b. b == c) text) (is_equal (get_or text (position_or_len (λ b. b == c) text) 0) c (passes_at_first (λ b. b == c) text 0 at))
  where
    is_less : (a b : ℕ) → nat_lt a b ≡ true → a < b
    is_less a b h = grind (arith, nat_tests)

    is_equal : (a b : ℕ) → (a == b) ≡ true → a ≡ b
    is_equal a b h = grind (arith, nat_tests)

-- with a blank it is its first word, a blank and the other words
pub split : (text : List ℕ) → has_blank text ≡ true → text ≡ first_word text ++ 32 ∷ other_words text
split text h = split_at 32 text h

pub blank_and : {A : Type 0} (b : Bool) (o : Option A) (y : A) → cond b o None ≡ Some y → (b ≡ true) × (o ≡ Some y)
blank_and true o y h = (refl, h)
blank_and false o y h = absurd (cc)

-- what is read of its parts was printed so, where what is read of two words was
pub printed_by : {A : Type 0} (say : A → List ℕ) (Fits : A → Type 0) (read : List ℕ → List ℕ → Option A) → ((w r : List ℕ) (x : A) → read w r ≡ Some x → (say x ≡ w ++ 32 ∷ r) × Fits x)
    → (text : List ℕ) (x : A) → cond (has_blank text) (read (first_word text) (other_words text)) None ≡ Some x → (say x ≡ text) × Fits x
printed_by say Fits read printed text x h =
    let (blank, found) = blank_and (has_blank text) _ x h in
    let p = printed (first_word text) (other_words text) x found in
    (p.0 ∙ sym (split text blank), p.1)

-- what is printed is read

abbrev pub two_parts : Bool → List ℕ → List ℕ → Option (ℕ × ℕ)
two_parts blank w r = cond blank (option_and_then (λ a. option_and_then (λ b. Some (a, b)) (number_in r)) (number_in w)) None

abbrev three_parts : Bool → List ℕ → List ℕ → Option (ℕ × ℕ × ℕ)
three_parts blank w r = cond blank (option_and_then (λ a. option_and_then (λ bc. Some (a, bc.0, bc.1)) (two_in r)) (number_in w)) None

pub two_reads : (a b : ℕ) → a < 2 ^ 64 → b < 2 ^ 64 → two_in (decimal a ++ 32 ∷ decimal b) ≡ Some (a, b)
two_reads a b fa fb =
    let text = decimal a ++ 32 ∷ decimal b in
    let w : AreWords text (decimal a) (decimal b) = words (decimal a) (decimal b) (decimal_lacks 32 a (omega arith) fa) in
    ap (λ t. two_parts t (first_word text) (other_words text)) w.blank ∙ ap (λ f. two_parts true f (other_words text)) w.first ∙ ap (λ r. two_parts true (decimal a) r) w.rest
    ∙ ap (λ o. option_and_then (λ x. option_and_then (λ y. Some (x, y)) (number_in (decimal b))) o) (reads_printed a fa)
    ∙ ap (λ o. option_and_then (λ y. Some (a, y)) o) (reads_printed b fb)

pub three_reads : (a b c : ℕ) → a < 2 ^ 64 → b < 2 ^ 64 → c < 2 ^ 64 → three_in (decimal a ++ 32 ∷ (decimal b ++ 32 ∷ decimal c)) ≡ Some (a, b, c)
three_reads a b c fa fb fc =
    let rest = decimal b ++ 32 ∷ decimal c in
    let text = decimal a ++ 32 ∷ rest in
    let w : AreWords text (decimal a) rest = words (decimal a) rest (decimal_lacks 32 a (omega arith) fa) in
    ap (λ t. three_parts t (first_word text) (other_words text)) w.blank ∙ ap (λ f. three_parts true f (other_words text)) w.first ∙ ap (λ r. three_parts true (decimal a) r) w.rest
    ∙ ap (λ o. option_and_then (λ x. option_and_then (λ yz. Some (x, yz.0, yz.1)) (two_in rest)) o) (reads_printed a fa)
    ∙ ap (λ o. option_and_then (λ yz. Some (a, yz.0, yz.1)) o) (two_reads b c fb fc)

-- what is read was printed so

pub and_then_some : {A B : Type 0} (f : A → Option B) (o : Option A) (y : B) → option_and_then f o ≡ Some y → (x : A) × (o ≡ Some x) × (f x ≡ Some y)
and_then_some f None y h = absurd (cc)
and_then_some f (Some x) y h = (x, refl, h)

pub two_printed : (text : List ℕ) (ab : ℕ × ℕ) → two_in text ≡ Some ab → (decimal ab.0 ++ 32 ∷ decimal ab.1 ≡ text) × (ab.0 < 2 ^ 64) × (ab.1 < 2 ^ 64)
two_printed text ab h =
    let (blank, read) = blank_and (has_blank text) _ ab h in
    let (a, first, more) = and_then_some _ (number_in (first_word text)) ab read in
    let (b, rest, both) = and_then_some _ (number_in (other_words text)) ab more in
    let (a_is, fa) = printed_of_read (first_word text) a first in
    let (b_is, fb) = printed_of_read (other_words text) b rest in
    let printed : decimal a ++ 32 ∷ decimal b ≡ text = ap (λ w. w ++ 32 ∷ decimal b) a_is ∙ ap (λ r. first_word text ++ 32 ∷ r) b_is ∙ sym (split text blank) in
    let pair : (a, b) ≡ ab = cc in
    subst (λ (p : ℕ × ℕ). (decimal p.0 ++ 32 ∷ decimal p.1 ≡ text) × (p.0 < 2 ^ 64) × (p.1 < 2 ^ 64)) pair (printed, fa, fb)

pub three_printed : (text : List ℕ) (abc : ℕ × ℕ × ℕ) → three_in text ≡ Some abc → (decimal abc.0 ++ 32 ∷ (decimal abc.1 ++ 32 ∷ decimal abc.2) ≡ text) × (abc.0 < 2 ^ 64) × (abc.1 < 2 ^ 64) × (abc.2 < 2 ^ 64)
three_printed text abc h =
    let (blank, read) = blank_and (has_blank text) _ abc h in
    let (a, first, more) = and_then_some _ (number_in (first_word text)) abc read in
    let (bc, rest, both) = and_then_some _ (two_in (other_words text)) abc more in
    let (a_is, fa) = printed_of_read (first_word text) a first in
    let (bc_is, fb, fc) = two_printed (other_words text) bc rest in
    let printed : decimal a ++ 32 ∷ (decimal bc.0 ++ 32 ∷ decimal bc.1) ≡ text = ap (λ w. w ++ 32 ∷ (decimal bc.0 ++ 32 ∷ decimal bc.1)) a_is ∙ ap (λ r. first_word text ++ 32 ∷ r) bc_is ∙ sym (split text blank) in
    let triple : (a, bc.0, bc.1) ≡ abc = cc in
    subst (λ (p : ℕ × ℕ × ℕ). (decimal p.0 ++ 32 ∷ (decimal p.1 ++ 32 ∷ decimal p.2) ≡ text) × (p.0 < 2 ^ 64) × (p.1 < 2 ^ 64) × (p.2 < 2 ^ 64)) triple (printed, fa, fb, fc)

pub either_way : {A : Type 0} (b : Bool) (x y z : A) → cond b x y ≡ z → ((b ≡ true) × (x ≡ z)) ⊎ ((b ≡ false) × (y ≡ z))
either_way true x y z h = inl (refl, h)
either_way false x y z h = inr (refl, h)

-- the word of one of two
pub either_word : {A : Type 0} (w a b : List ℕ) (x y z : A) → cond (bytes_eq w a) (Some x) (cond (bytes_eq w b) (Some y) None) ≡ Some z → ((w ≡ a) × (x ≡ z)) ⊎ ((w ≡ b) × (y ≡ z))
either_word w a b x y z h = elim (either_way (bytes_eq w a) _ _ (Some z) h) [
  | inl t ↦ inl ((bytes_eq-Decides w a).0 t.0, some_is t.1)
  | inr f ↦ elim (either_way (bytes_eq w b) _ _ (Some z) f.1) [
    | inl t ↦ inr ((bytes_eq-Decides w b).0 t.0, some_is t.1)
    | inr n ↦ absurd (none_some n.1)
  ]
]

-- what is printed is text
pub ascii_by_test : (text : List ℕ) → list_all (λ b. nat_lt b 128) text ≡ true → IsAscii text
ascii_by_test [] h = IsAscii-nil
ascii_by_test (b ∷ text) h =
    let parts = and_parts (nat_lt b 128) (list_all (λ d. nat_lt d 128) text) h in
    IsAscii-cons b text (is_less b 128 parts.0) (ascii_by_test text parts.1)
  where
    is_less : (a n : ℕ) → nat_lt a n ≡ true → a < n
    is_less a n t = grind (arith, nat_tests)

pub two_ascii : (a b : ℕ) → a < 2 ^ 64 → b < 2 ^ 64 → IsAscii (decimal a ++ 32 ∷ decimal b)
two_ascii a b fa fb = IsAscii-append (decimal a) (32 ∷ decimal b) (IsAscii-decimal a fa) (IsAscii-cons 32 (decimal b) (omega arith) (IsAscii-decimal b fb))

pub three_ascii : (a b c : ℕ) → a < 2 ^ 64 → b < 2 ^ 64 → c < 2 ^ 64 → IsAscii (decimal a ++ 32 ∷ (decimal b ++ 32 ∷ decimal c))
three_ascii a b c fa fb fc = IsAscii-append (decimal a) (32 ∷ (decimal b ++ 32 ∷ decimal c)) (IsAscii-decimal a fa) (IsAscii-cons 32 (decimal b ++ 32 ∷ decimal c) (omega arith) (two_ascii b c fb fc))

-- bytes that are not UTF-8 say no two numbers, and no three
pub two_no_text : (bytes : List ℕ) → ¬ (IsUtf8 bytes) → None ≡ two_in bytes
two_no_text = no_text_by (λ (n : ℕ × ℕ). decimal n.0 ++ 32 ∷ decimal n.1) (λ n. (n.0 < 2 ^ 64) × (n.1 < 2 ^ 64)) two_in (λ text n is. let p = two_printed text n is in (p.0, (p.1, p.2)))
    (λ n fits. two_ascii n.0 n.1 fits.0 fits.1)

pub three_no_text : (bytes : List ℕ) → ¬ (IsUtf8 bytes) → None ≡ three_in bytes
three_no_text = no_text_by (λ (n : ℕ × ℕ × ℕ). decimal n.0 ++ 32 ∷ (decimal n.1 ++ 32 ∷ decimal n.2)) (λ n. (n.0 < 2 ^ 64) × (n.1 < 2 ^ 64) × (n.2 < 2 ^ 64)) three_in
    (λ text n is. let p = three_printed text n is in (p.0, (p.1, p.2, p.3))) (λ n fits. three_ascii n.0 n.1 n.2 fits.0 fits.1 fits.2)
