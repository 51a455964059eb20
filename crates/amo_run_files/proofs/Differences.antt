-- The first lines of a file, and of another that has to begin with them.
use Rattle.std.proofs.Common.{◌≡◌, ◌≢◌, inl, inr, ℕ, zero, suc, ◌+◌, ◌-◌, ◌<◌, ◌≤◌, Bool, cond, List, [], ◌∷◌, length, get_or, take, count_by, refl, sym, ap, subst, ◌∙◌, arith, length-take, take-take, get_or-take}
use Rattle.std.specs.Prelude.{◌==◌}
use Rattle.std.proofs.lemmas.Bool.{cases_eq}
use Rattle.std.proofs.lemmas.List.Sums.{sum_by-cons}
use Rattle.amo_run_log.proofs.Words.{equal, not_equal}
use Rattle.amo_run_files.specs.Lines.{first_lines, BeginsWith}
use Rattle.amo_run_files.proofs.Cuts.{first_end, first_on}

-- how many line feeds
abbrev pub line_feeds : List ℕ → ℕ
line_feeds bytes = count_by (λ b. b == 10) bytes

abbrev one_for : ℕ → ℕ
one_for b = cond (b == 10) 1 0

feeds_end : (b : ℕ) (bytes : List ℕ) → b ≡ 10 → line_feeds (b ∷ bytes) ≡ suc (line_feeds bytes)
feeds_end b bytes e = let one : line_feeds (b ∷ bytes) ≡ 1 + line_feeds bytes = sum_by-cons one_for b bytes ∙ ap (λ (t : Bool). cond t 1 0 + line_feeds bytes) (equal b 10 e) in omega arith

feeds_on : (b : ℕ) (bytes : List ℕ) → b ≢ 10 → line_feeds (b ∷ bytes) ≡ line_feeds bytes
feeds_on b bytes ne = let none : line_feeds (b ∷ bytes) ≡ 0 + line_feeds bytes = sum_by-cons one_for b bytes ∙ ap (λ (t : Bool). cond t 1 0 + line_feeds bytes) (not_equal b 10 ne) in omega arith

-- they are a front of the file
front : (count : ℕ) (known : List ℕ) → first_lines count known ≡ take (length (first_lines count known)) known
front zero known = refl
front (suc count) [] = refl
front (suc count) (b ∷ known) = elim (cases_eq b 10) [
  | inl e ↦
      first_end count b known e ∙ ap (λ (t : List ℕ). b ∷ t) (front count known) ∙ ap (λ (n : ℕ). take n (b ∷ known)) (sym (ap length (first_end count b known e)))
  | inr ne ↦
      first_on count b known ne ∙ ap (λ (t : List ℕ). b ∷ t) (front (suc count) known) ∙ ap (λ (n : ℕ). take n (b ∷ known)) (sym (ap length (first_on count b known ne)))
]

-- as many as were passed end before this byte
before : (known : List ℕ) (i : ℕ) → length (first_lines (line_feeds (take i known)) known) ≤ i
before known zero = omega arith
before [] (suc i) = omega arith
before (b ∷ known) (suc i) = elim (cases_eq b 10) [
  | inl e ↦ omega (arith, ap length (ap (λ (n : ℕ). first_lines n (b ∷ known)) (feeds_end b (take i known) e) ∙ first_end (line_feeds (take i known)) b known e), before known i)
  | inr ne ↦ on ne (before known i) (line_feeds (take i known)) refl
]
  where
    on : b ≢ 10 → length (first_lines (line_feeds (take i known)) known) ≤ i → (n : ℕ) → line_feeds (take i known) ≡ n → length (first_lines (line_feeds (take (suc i) (b ∷ known))) (b ∷ known)) ≤ suc i
    on ne le zero is = omega (arith, ap length (ap (λ (n : ℕ). first_lines n (b ∷ known)) (feeds_on b (take i known) ne ∙ is)))
    on ne le (suc n) is =
        omega (arith, ap length (ap (λ (m : ℕ). first_lines m (b ∷ known)) (feeds_on b (take i known) ne ∙ is) ∙ first_on n b known ne), ap (λ (m : ℕ). length (first_lines m known)) is)

-- and one more has it
beyond : (known : List ℕ) (i : ℕ) → i < length known → i < length (first_lines (suc (line_feeds (take i known))) known)
beyond [] i lt = absurd (omega arith)
beyond (b ∷ known) zero lt = omega arith
beyond (b ∷ known) (suc i) lt = elim (cases_eq b 10) [
  | inl e ↦ omega (arith, ap length (ap (λ (n : ℕ). first_lines (suc n) (b ∷ known)) (feeds_end b (take i known) e) ∙ first_end (suc (line_feeds (take i known))) b known e), beyond known i (omega arith))
  | inr ne ↦ omega (arith, ap length (ap (λ (n : ℕ). first_lines (suc n) (b ∷ known)) (feeds_on b (take i known) ne) ∙ first_on (line_feeds (take i known)) b known ne), beyond known i (omega arith))
]

module _ (known file : List ℕ) (i : ℕ) (same : take i known ≡ take i file) where
  -- the lines that end before this byte are there
  pub are_there : (line : ℕ) → line ≡ line_feeds (take i known) + 1 → BeginsWith (first_lines (line - 1) known) file
  are_there line is =
      let count = line_feeds (take i known) in
      let passed = first_lines count known in
      let n = length passed in
      let index : line - 1 ≡ count = omega arith in
      subst (λ (m : ℕ). BeginsWith (first_lines m known) file) (sym index)
      (sym (take-take n i file (before known i)) ∙ ap (take n) (sym same) ∙ take-take n i known (before known i) ∙ sym (front count known))

-- a file that begins with a front of another that has this byte has it
byte_there : (known file : List ℕ) (i : ℕ) (text : List ℕ) → i < length text → text ≡ take (length text) known → BeginsWith text file → (i < length file) × (get_or file i 0 ≡ get_or known i 0)
byte_there known file i text lt is begins = (
  omega (arith, ap length begins, length-take (length text) file),
  sym (get_or-take (length text) file i 0 lt) ∙ ap (λ (t : List ℕ). get_or t i 0) (begins ∙ is) ∙ get_or-take (length text) known i 0 lt,
)

-- if the byte is missing or another, the line isn't there, and so the known bytes aren't
module _ (known file : List ℕ) (i : ℕ) (there : i < length known) (differs : i < length file → get_or file i 0 ≢ get_or known i 0) where
  pub isnt_there : (line : ℕ) → line ≡ line_feeds (take i known) + 1 → ¬ (BeginsWith (first_lines line known) file)
  isnt_there line is begins =
      let count = line_feeds (take i known) in
      let next : line ≡ suc count = omega arith in
      let at : BeginsWith (first_lines (suc count) known) file = subst (λ (m : ℕ). BeginsWith (first_lines m known) file) next begins in
      let has = byte_there known file i (first_lines (suc count) known) (beyond known i there) (front (suc count) known) at in
      differs has.0 has.1

  pub all_isnt_there : ¬ (BeginsWith known file)
  all_isnt_there begins = let has = byte_there known file i known there (whole known) begins in differs has.0 has.1
    where
      whole : (bytes : List ℕ) → bytes ≡ take (length bytes) bytes
      whole [] = refl
      whole (b ∷ bytes) = ap (λ (t : List ℕ). b ∷ t) (whole bytes)
