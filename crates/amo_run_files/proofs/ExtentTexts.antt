-- An extent is read back as it was printed, and each one that is read was printed so.
use Rattle.std.proofs.Common.{◌≡◌, inl, inr, ℕ, suc, ◌+◌, ◌-◌, ◌^◌, ◌<◌, Bool, true, false, cond, List, [], ◌∷◌, ◌++◌, length, take, drop, Option, Some, None, refl, sym, ap, subst, ◌∙◌, arith}
use Rattle.std.specs.Prelude.{not, ◌==◌, option_map, position}
use Rattle.std.specs.Fmt.{decimal}
use Rattle.std.specs.List.{position_or_len}
use Rattle.std.proofs.lemmas.List.{take_rest}
use Rattle.std.proofs.lemmas.Bool.{cases_eq}
use Rattle.amo_decimal.specs.Numbers.{number_in}
use Rattle.amo_decimal.proofs.NumberTexts.{reads_printed, printed_of_read}
use Rattle.amo_run_log.specs.Numbers.{has_blank, first_word, other_words, by_word}
use Rattle.amo_run_log.proofs.Words.{Lacks, lacks_append, decimal_lacks, equal, not_equal, words, split, blank_and, printed_by}
use Rattle.amo_run_files.specs.Extents.{ExtentView, IsExtent, text_of_extent, words_in, extent_of_words, extent_in}
use Rattle.amo_run_files.proofs.RecordTexts.{map_some, lacks_behind}

-- what is read of two words
by_words : {A : Type 0} (read : List ℕ → List ℕ → Option A) (w r : List ℕ) → Lacks 32 w → by_word read (w ++ 32 ∷ r) ≡ read w r
by_words read w r lacks =
    let text = w ++ 32 ∷ r in
    let p = words w r lacks in
    ap (λ t. cond t (read (first_word text) (other_words text)) None) p.blank ∙ ap (λ f. read f (other_words text)) p.first ∙ ap (read w) p.rest

abbrev extent_named : List ℕ → List ℕ → ℕ → ExtentView
extent_named name digest n = record { name = name; len = n; digest = digest }

pub extent_reads : (e : ExtentView) → IsExtent e → extent_in (text_of_extent e) ≡ Some e
extent_reads e is =
    by_words (λ name more. by_word (extent_of_words name) more) e.name (decimal e.len ++ 32 ∷ e.digest) is.name
    ∙ by_words (extent_of_words e.name) (decimal e.len) e.digest (decimal_lacks 32 e.len (omega arith) is.len)
    ∙ ap (option_map (extent_named e.name e.digest)) (reads_printed e.len is.len)

pub extent_lacks : (e : ExtentView) → IsExtent e → Lacks 10 (text_of_extent e)
extent_lacks e is =
    lacks_append 10 e.name (32 ∷ (decimal e.len ++ 32 ∷ e.digest)) is.name_line
    ((λ h. omega (arith, h)), lacks_append 10 (decimal e.len) (32 ∷ e.digest) (decimal_lacks 10 e.len (omega arith) is.len) ((λ h. omega (arith, h)), is.digest))

-- the first word has no blank

one_more : (n : ℕ) → 1 + n ≡ suc n
one_more n = omega arith

first_lacks : (text : List ℕ) → Lacks 32 (first_word text)
first_lacks [] = tt
first_lacks (b ∷ text) = elim (cases_eq b 32) [
  | inl same ↦ subst (λ (n : ℕ). Lacks 32 (take n (b ∷ text))) (sym (ap (λ (t : Bool). cond (not t) (1 + position_or_len (λ d. d == 32) text) 0) (equal b 32 same))) tt
  | inr other ↦ subst (λ (n : ℕ). Lacks 32 (take n (b ∷ text))) (sym (ap (λ (t : Bool). cond (not t) (1 + position_or_len (λ d. d == 32) text) 0) (not_equal b 32 other) ∙ one_more (position_or_len (λ d. d == 32) text))) (other, first_lacks text)
]

-- the index of the first blank

abbrev pair : List ℕ → List ℕ → Option (List ℕ × List ℕ)
pair w r = Some (w, r)

pub found : (text : List ℕ) (at : ℕ) → Some at ≡ position (λ b. b == 32) text → Some (take at text, take (length text - (at + 1)) (drop (at + 1) text)) ≡ words_in text
found text at h =
    let place = position_or_len (λ b. b == 32) text in
    let (there, some) = blank_and (has_blank text) (Some place) at (sym h) in
    let is : place ≡ at = cc in
    ap (pair (take at text)) (take_rest text (at + 1))
    ∙ sym (ap (λ t. cond t (pair (first_word text) (other_words text)) None) there ∙ ap (λ n. pair (take n text) (drop (n + 1) text)) is)

pub missed : (text : List ℕ) → None ≡ position (λ b. b == 32) text → None ≡ words_in text
missed text h = by_test (has_blank text) refl h
  where
    by_test : (t : Bool) → has_blank text ≡ t → None ≡ cond t (Some (position_or_len (λ b. b == 32) text)) None → None ≡ words_in text
    by_test true e x = absurd (cc)
    by_test false e x = ap (λ t. cond t (pair (first_word text) (other_words text)) None) (sym e)

-- an extent that is read of two words is printed as them
abbrev IsNamed : List ℕ → ExtentView → Type 0
IsNamed name e = (e.name ≡ name) × (e.len < 2 ^ 64)

words_printed : (name len digest : List ℕ) (e : ExtentView) → extent_of_words name len digest ≡ Some e → (decimal e.len ++ 32 ∷ e.digest ≡ len ++ 32 ∷ digest) × IsNamed name e
words_printed name len digest e h =
    let (n, some, is) = map_some (extent_named name digest) (number_in len) e h in
    let (n_is, fits) = printed_of_read len n some in
    subst (λ (x : ExtentView). (decimal x.len ++ 32 ∷ x.digest ≡ len ++ 32 ∷ digest) × IsNamed name x) is (ap (λ t. t ++ 32 ∷ digest) n_is, (refl, fits))

-- what is known of an extent that was read
abbrev pub WasRead : ExtentView → Type 0
WasRead e = Lacks 32 e.name × (e.len < 2 ^ 64)

pub extent_printed : (text : List ℕ) (e : ExtentView) → extent_in text ≡ Some e → (text_of_extent e ≡ text) × WasRead e
extent_printed text e h =
    let name = first_word text in
    let more = other_words text in
    let (blank, read) = blank_and (has_blank text) _ e h in
    let (printed, named) = printed_by (λ (x : ExtentView). decimal x.len ++ 32 ∷ x.digest) (IsNamed name) (extent_of_words name) (words_printed name) more e read in (
      ap (λ t. e.name ++ 32 ∷ t) printed ∙ ap (λ n. n ++ 32 ∷ more) named.0 ∙ sym (split text blank),
      (subst (Lacks 32) (sym named.0) (first_lacks text), named.1),
    )

lacks_front : (xs ys : List ℕ) → Lacks 10 (xs ++ ys) → Lacks 10 xs
lacks_front [] ys all = tt
lacks_front (x ∷ xs) ys all = (all.0, lacks_front xs ys all.1)

pub extent_is : (e : ExtentView) → WasRead e → Lacks 10 (text_of_extent e) → IsExtent e
extent_is e read line = record {
  name = read.0;
  name_line = lacks_front e.name (32 ∷ (decimal e.len ++ 32 ∷ e.digest)) line;
  len = read.1;
  digest = (lacks_behind (decimal e.len) (32 ∷ e.digest) (lacks_behind e.name (32 ∷ (decimal e.len ++ 32 ∷ e.digest)) line).1).1;
}
