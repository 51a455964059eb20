-- The words of a line, and the lines of a text, are what was joined.
use Rattle.std.proofs.Common.{◌≡◌, ℕ, ◌+◌, ◌-◌, ◌^◌, ◌<◌, ◌≤◌, true, false, List, [], ◌∷◌, ◌++◌, length, map, take, get_or, refl, sym, ap, ◌∙◌, arith}
use Rattle.std.specs.Prelude.{nat_le, ◌==◌, codes}
use Rattle.std.specs.Char.{digit_value}
use Rattle.std.specs.Fmt.{decimal}
use Rattle.std.specs.List.{join_with_byte, list_all, slice_split}
use Rattle.std.specs.Str.Parse.{AllDigits}
use Rattle.std.proofs.lemmas.Bool.{and_parts}
use Rattle.std.proofs.lemmas.Bool.Decides.{nat_tests}
use Rattle.std.proofs.lemmas.Fmt.{decimal_is_IsNumeral}
use Rattle.std.proofs.lemmas.List.Elements.{All-from_recursion}
use Rattle.std.proofs.lemmas.List.{length-map}
use Rattle.std.proofs.lemmas.List.Splits.{length-slice_split, slice_split_at, slice_split_none}
use Rattle.amo_safety_by_journals.specs.Model.{Event, Dies, Begins, Lands, Wants, Intends, Looks, HandsOver, Performs, Ends, Opens}
use Rattle.amo_params.specs.declared.limits.TheConstants.{MAX_WORKERS}
use Rattle.amo_call_log_judge.specs.Grammar.{line_for, lines_for, words_for, MayAllStand, MayStand}
use Rattle.amo_call_log_judge.proofs.Places.{equal_is}

-- the byte c is not in the text
abbrev pub Lacks : ℕ → List ℕ → Type 0
Lacks c [] = Unit {0}
Lacks c (b ∷ text) = ((b == c) ≡ false) × Lacks c text

abbrev pub AllLack : ℕ → List (List ℕ) → Type 0
AllLack c [] = Unit {0}
AllLack c (word ∷ words) = Lacks c word × AllLack c words

lacks_append : (c : ℕ) (xs ys : List ℕ) → Lacks c xs → Lacks c ys → Lacks c (xs ++ ys)
lacks_append c [] ys x y = y
lacks_append c (b ∷ xs) ys x y = (x.0, lacks_append c xs ys x.1 y)

differs : (b c : ℕ) → c < 45 → nat_le 45 b ≡ true → (b == c) ≡ false
differs b c lt t = grind (arith, nat_tests)

-- letters and hyphens lack what is below them
above : (c : ℕ) (text : List ℕ) → c < 45 → list_all (λ b. nat_le 45 b) text ≡ true → Lacks c text
above c [] lt t = tt
above c (b ∷ text) lt t = let parts = and_parts (nat_le 45 b) (list_all (λ b. nat_le 45 b) text) t in (differs b c lt parts.0, above c text lt parts.1)

no_digit : (c d : ℕ) → c < 45 → digit_value d < 10 → (d == c) ≡ false
no_digit c d lt digit = grind (arith, nat_tests)

digits_lack : (c : ℕ) (ds : List ℕ) → c < 45 → AllDigits 10 ds → Lacks c ds
digits_lack c [] lt all = tt
digits_lack c (d ∷ ds) lt all = (no_digit c d lt all.0, digits_lack c ds lt all.1)

pub number_lacks : (c n : ℕ) → c < 45 → n < 2 ^ 64 → Lacks c (decimal n)
number_lacks c n lt fits = digits_lack c (decimal n) lt (decimal_is_IsNumeral n fits).0.1

worker_lacks : (c p : ℕ) → c < 45 → p ≤ MAX_WORKERS → Lacks c (decimal p)
worker_lacks c p lt le = number_lacks c p lt (omega (arith, le))

-- no word of an event has a blank or a line feed
pub words_lack : (c : ℕ) (e : Event) → c < 45 → MayStand e → AllLack c (words_for e)
words_lack c (Begins p) lt may = (above c (codes "begins") lt refl, (worker_lacks c p lt may, tt))
words_lack c (Dies p) lt may = (above c (codes "dies") lt refl, (worker_lacks c p lt may, tt))
words_lack c (Lands p line) lt may = (above c (codes "lands") lt refl, (worker_lacks c p lt may.0, (number_lacks c line lt may.1, tt)))
words_lack c (Wants p line) lt may = tt
words_lack c (Intends p line) lt may = (above c (codes "intends") lt refl, (worker_lacks c p lt may.0, (number_lacks c line lt may.1, tt)))
words_lack c (Looks p q) lt may = (above c (codes "looks") lt refl, (worker_lacks c p lt may.0, (worker_lacks c q lt may.1, tt)))
words_lack c (HandsOver p) lt may = (above c (codes "hands-over") lt refl, (worker_lacks c p lt may, tt))
words_lack c (Performs h) lt may = (above c (codes "performs") lt refl, (worker_lacks c h.worker lt may.0, (number_lacks c h.serial lt may.1, (number_lacks c h.line lt may.2, tt))))
words_lack c (Ends i) lt may = (above c (codes "ends") lt refl, (number_lacks c i lt may, tt))
words_lack c (Opens a) lt may = (above c (codes "opens") lt refl, (worker_lacks c a.worker lt may.0, (number_lacks c a.serial lt may.1, tt)))

-- ---- cutting at a byte

by_elements : (c : ℕ) (xs : List ℕ) → Lacks c xs → slice_split (λ b. b == c) xs ≡ xs ∷ []
by_elements c xs lacks = slice_split_none (λ b. b == c) xs (All-from_recursion (λ b. (b == c) ≡ false) xs lacks)

at_byte : (c : ℕ) (xs ys : List ℕ) → Lacks c xs → slice_split (λ b. b == c) (xs ++ c ∷ ys) ≡ xs ∷ slice_split (λ b. b == c) ys
at_byte c xs ys lacks = slice_split_at (λ b. b == c) xs c ys (All-from_recursion (λ b. (b == c) ≡ false) xs lacks) (equal_is c c refl)

pub split_joined : (c : ℕ) (word : List ℕ) (words : List (List ℕ)) → Lacks c word → AllLack c words → slice_split (λ b. b == c) (join_with_byte c (word ∷ words)) ≡ word ∷ words
split_joined c word [] lacks all = by_elements c word lacks
split_joined c word (next ∷ words) lacks all = at_byte c word (join_with_byte c (next ∷ words)) lacks ∙ ap (λ (ws : List (List ℕ)). word ∷ ws) (split_joined c next words all.0 all.1)

joined_lacks : (c d : ℕ) (words : List (List ℕ)) → (d == c) ≡ false → AllLack c words → Lacks c (join_with_byte d words)
joined_lacks c d [] other all = tt
joined_lacks c d (word ∷ []) other all = all.0
joined_lacks c d (word ∷ next ∷ words) other all = lacks_append c word (d ∷ join_with_byte d (next ∷ words)) all.0 (other, joined_lacks c d (next ∷ words) other all.1)

pub line_lacks : (e : Event) → MayStand e → Lacks 10 (line_for e)
line_lacks e may = joined_lacks 10 32 (words_for e) refl (words_lack 10 e (omega arith) may)

-- the lines of a log, and the part after the last line feed
pub lines_split : (es : List Event) → MayAllStand es → slice_split (λ b. b == 10) (lines_for es) ≡ map line_for es ++ [] ∷ []
lines_split [] all = refl
lines_split (e ∷ es) all = at_byte 10 (line_for e) (lines_for es) (line_lacks e all.0) ∙ ap (λ (lines : List (List ℕ)). line_for e ∷ lines) (lines_split es all.1)

pub lines_joined : (es : List Event) → join_with_byte 10 (map line_for es ++ [] ∷ []) ≡ lines_for es
lines_joined [] = refl
lines_joined (e ∷ []) = refl
lines_joined (e ∷ f ∷ es) = ap (λ (text : List ℕ). line_for e ++ 10 ∷ text) (lines_joined (f ∷ es))

-- a text has one part at least
pub some_parts : {A : Type 0} (f : A → List ℕ) (xs : List A) (text : List ℕ) → map f xs ≡ slice_split (λ b. b == 10) text → 0 < length xs
some_parts f xs text is = omega (arith, sym (length-map xs f) ∙ (ap length is ∙ length-slice_split (λ b. b == 10) text))

-- ---- the last part

pub take_front : {A : Type 0} (xs : List A) (y : A) → take (length (xs ++ y ∷ []) - 1) (xs ++ y ∷ []) ≡ xs
take_front {A} xs y = ap (λ (n : ℕ). take n (xs ++ y ∷ [])) (before xs) ∙ front xs
  where
    many : (xs : List A) → length (xs ++ y ∷ []) ≡ length xs + 1
    many [] = refl
    many (x ∷ xs) = omega (arith, many xs)

    before : (xs : List A) → length (xs ++ y ∷ []) - 1 ≡ length xs
    before xs = omega (arith, many xs)

    front : (xs : List A) → take (length xs) (xs ++ y ∷ []) ≡ xs
    front [] = refl
    front (x ∷ xs) = ap (λ (rest : List A). x ∷ rest) (front xs)

pub last_item : {A : Type 0} (xs : List A) (y d : A) → get_or (xs ++ y ∷ []) (length (xs ++ y ∷ []) - 1) d ≡ y
last_item {A} xs y d = ap (λ (n : ℕ). get_or (xs ++ y ∷ []) n d) (before xs) ∙ last xs
  where
    many : (xs : List A) → length (xs ++ y ∷ []) ≡ length xs + 1
    many [] = refl
    many (x ∷ xs) = omega (arith, many xs)

    before : (xs : List A) → length (xs ++ y ∷ []) - 1 ≡ length xs
    before xs = omega (arith, many xs)

    last : (xs : List A) → get_or (xs ++ y ∷ []) (length xs) d ≡ y
    last [] = refl
    last (x ∷ xs) = last xs

-- a list that isn't empty has a last item
pub record IsSnoc {A : Type 0} (xs : List A) : Type 0 where
  pub front : List A
  pub last : A
  pub both : xs ≡ front ++ last ∷ []

pub snoc_of : {A : Type 0} (x : A) (xs : List A) → IsSnoc (x ∷ xs)
snoc_of x [] = record { front = []; last = x; both = refl }
snoc_of {A} x (y ∷ xs) = let rest = snoc_of y xs in record { front = x ∷ rest.front; last = rest.last; both = ap (λ (all : List A). x ∷ all) rest.both }
