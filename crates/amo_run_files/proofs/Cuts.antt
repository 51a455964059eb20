-- A file is its lines, each with its end, and then the bytes after them; and nothing else is.
use Rattle.std.proofs.Common.{◌≡◌, ◌≢◌, inl, inr, ℕ, zero, suc, ◌<◌, ◌≤◌, Bool, cond, List, [], ◌∷◌, ◌++◌, length, take, drop, refl, sym, ap, subst, ◌∙◌, arith, append_assoc, append-nil, take-append-drop}
use Rattle.std.specs.List.{AllByRecursion}
use Rattle.std.proofs.lemmas.Bool.{cases_eq}
use Rattle.std.proofs.lemmas.List.{take_at}
use Rattle.amo_run_log.specs.Texts.{ended}
use Rattle.amo_run_log.proofs.Words.{Lacks, lacks_append, equal, not_equal}
use Rattle.amo_run_files.specs.Lines.{lines_from, remainder_from, lines_in, remainder_in, first_lines, BeginsWith}

-- a byte that ends a line, and one that doesn't

module _ (begun : List ℕ) (b : ℕ) (bytes : List ℕ) where
  pub lines_end : b ≡ 10 → lines_from begun (b ∷ bytes) ≡ begun ∷ lines_from [] bytes
  lines_end e = ap (λ (t : Bool). cond t (begun ∷ lines_from [] bytes) (lines_from (begun ++ b ∷ []) bytes)) (equal b 10 e)

  pub lines_on : b ≢ 10 → lines_from begun (b ∷ bytes) ≡ lines_from (begun ++ b ∷ []) bytes
  lines_on ne = ap (λ (t : Bool). cond t (begun ∷ lines_from [] bytes) (lines_from (begun ++ b ∷ []) bytes)) (not_equal b 10 ne)

  remainder_end : b ≡ 10 → remainder_from begun (b ∷ bytes) ≡ remainder_from [] bytes
  remainder_end e = ap (λ (t : Bool). cond t (remainder_from [] bytes) (remainder_from (begun ++ b ∷ []) bytes)) (equal b 10 e)

  remainder_on : b ≢ 10 → remainder_from begun (b ∷ bytes) ≡ remainder_from (begun ++ b ∷ []) bytes
  remainder_on ne = ap (λ (t : Bool). cond t (remainder_from [] bytes) (remainder_from (begun ++ b ∷ []) bytes)) (not_equal b 10 ne)

-- the lines and the remainder are the file

pub whole_from : (begun file : List ℕ) → ended (lines_from begun file) ++ remainder_from begun file ≡ begun ++ file
whole_from begun [] = sym (append-nil begun)
whole_from begun (b ∷ bytes) = elim (cases_eq b 10) [
  | inl e ↦
      ap (λ (ls : List (List ℕ)). ended ls ++ remainder_from begun (b ∷ bytes)) (lines_end begun b bytes e)
      ∙ ap (λ (r : List ℕ). ended (begun ∷ lines_from [] bytes) ++ r) (remainder_end begun b bytes e)
      ∙ append_assoc begun (10 ∷ ended (lines_from [] bytes)) (remainder_from [] bytes)
      ∙ ap (λ (t : List ℕ). begun ++ 10 ∷ t) (whole_from [] bytes)
      ∙ ap (λ (x : ℕ). begun ++ x ∷ bytes) (sym e)
  | inr ne ↦
      ap (λ (ls : List (List ℕ)). ended ls ++ remainder_from begun (b ∷ bytes)) (lines_on begun b bytes ne)
      ∙ ap (λ (r : List ℕ). ended (lines_from (begun ++ b ∷ []) bytes) ++ r) (remainder_on begun b bytes ne)
      ∙ whole_from (begun ++ b ∷ []) bytes
      ∙ append_assoc begun (b ∷ []) bytes
]

pub whole : (file : List ℕ) → ended (lines_in file) ++ remainder_in file ≡ file
whole file = whole_from [] file

abbrev NoneHasEnd : List (List ℕ) → List ℕ → Type 0
NoneHasEnd lines rest = AllByRecursion (Lacks 10) lines × Lacks 10 rest

lacking_from : (begun file : List ℕ) → Lacks 10 begun → NoneHasEnd (lines_from begun file) (remainder_from begun file)
lacking_from begun [] lacks = (tt, lacks)
lacking_from begun (b ∷ bytes) lacks = elim (cases_eq b 10) [
  | inl e ↦
      let more : NoneHasEnd (lines_from [] bytes) (remainder_from [] bytes) = lacking_from [] bytes tt in (
        subst (λ (ls : List (List ℕ)). AllByRecursion (Lacks 10) ls) (sym (lines_end begun b bytes e)) (lacks, more.0),
        subst (λ (r : List ℕ). Lacks 10 r) (sym (remainder_end begun b bytes e)) more.1,
      )
  | inr ne ↦
      let more : NoneHasEnd (lines_from (begun ++ b ∷ []) bytes) (remainder_from (begun ++ b ∷ []) bytes) = lacking_from (begun ++ b ∷ []) bytes (lacks_append 10 begun (b ∷ []) lacks (ne, tt)) in (
        subst (λ (ls : List (List ℕ)). AllByRecursion (Lacks 10) ls) (sym (lines_on begun b bytes ne)) more.0,
        subst (λ (r : List ℕ). Lacks 10 r) (sym (remainder_on begun b bytes ne)) more.1,
      )
]

pub lacking : (file : List ℕ) → AllByRecursion (Lacks 10) (lines_in file) × Lacks 10 (remainder_in file)
lacking file = lacking_from [] file tt

-- other lines and another remainder are another file

line_cut : (line begun rest : List ℕ) → Lacks 10 line → lines_from begun (line ++ 10 ∷ rest) ≡ (begun ++ line) ∷ lines_from [] rest
line_cut [] begun rest lacks = ap (λ (l : List ℕ). l ∷ lines_from [] rest) (sym (append-nil begun))
line_cut (b ∷ line) begun rest lacks =
    lines_on begun b (line ++ 10 ∷ rest) lacks.0 ∙ line_cut line (begun ++ b ∷ []) rest lacks.1 ∙ ap (λ (l : List ℕ). l ∷ lines_from [] rest) (append_assoc begun (b ∷ []) line)

remainder_cut : (line begun rest : List ℕ) → Lacks 10 line → remainder_from begun (line ++ 10 ∷ rest) ≡ remainder_from [] rest
remainder_cut [] begun rest lacks = refl
remainder_cut (b ∷ line) begun rest lacks = remainder_on begun b (line ++ 10 ∷ rest) lacks.0 ∙ remainder_cut line (begun ++ b ∷ []) rest lacks.1

no_line : (rest begun : List ℕ) → Lacks 10 rest → lines_from begun rest ≡ []
no_line [] begun lacks = refl
no_line (b ∷ rest) begun lacks = lines_on begun b rest lacks.0 ∙ no_line rest (begun ++ b ∷ []) lacks.1

all_remainder : (rest begun : List ℕ) → Lacks 10 rest → remainder_from begun rest ≡ begun ++ rest
all_remainder [] begun lacks = sym (append-nil begun)
all_remainder (b ∷ rest) begun lacks = remainder_on begun b rest lacks.0 ∙ all_remainder rest (begun ++ b ∷ []) lacks.1 ∙ append_assoc begun (b ∷ []) rest

-- lines at the front of a file are its first lines
pub lines_more : (lines : List (List ℕ)) (more : List ℕ) → AllByRecursion (Lacks 10) lines → lines_in (ended lines ++ more) ≡ lines ++ lines_in more
lines_more [] more all = refl
lines_more (line ∷ lines) more all =
    ap lines_in (append_assoc line (10 ∷ ended lines) more) ∙ line_cut line [] (ended lines ++ more) all.0 ∙ ap (λ (ls : List (List ℕ)). line ∷ ls) (lines_more lines more all.1)

remainder_more : (lines : List (List ℕ)) (more : List ℕ) → AllByRecursion (Lacks 10) lines → remainder_in (ended lines ++ more) ≡ remainder_in more
remainder_more [] more all = refl
remainder_more (line ∷ lines) more all = ap remainder_in (append_assoc line (10 ∷ ended lines) more) ∙ remainder_cut line [] (ended lines ++ more) all.0 ∙ remainder_more lines more all.1

pub only : (lines : List (List ℕ)) (rest : List ℕ) → AllByRecursion (Lacks 10) lines → Lacks 10 rest → (lines_in (ended lines ++ rest) ≡ lines) × (remainder_in (ended lines ++ rest) ≡ rest)
only lines rest all lacks = (
  lines_more lines rest all ∙ ap (λ (ls : List (List ℕ)). lines ++ ls) (no_line rest [] lacks) ∙ append-nil lines,
  remainder_more lines rest all ∙ all_remainder rest [] lacks,
)

-- what stands before the remainder

pub front_is : (file : List ℕ) → take (length (ended (lines_in file))) file ≡ ended (lines_in file)
front_is file =
    ap (take (length (ended (lines_in file)))) (sym (whole file)) ∙ take_at (ended (lines_in file)) (remainder_in file) (length (ended (lines_in file))) refl

pub front_lines : (file : List ℕ) → (lines_in (ended (lines_in file)) ≡ lines_in file) × (remainder_in (ended (lines_in file)) ≡ [])
front_lines file =
    let alone : ended (lines_in file) ++ [] ≡ ended (lines_in file) = append-nil (ended (lines_in file)) in
    let are = only (lines_in file) [] (lacking file).0 tt in
    (sym (ap lines_in alone) ∙ are.0, sym (ap remainder_in alone) ∙ are.1)

-- the first lines

pub first_end : (count b : ℕ) (bytes : List ℕ) → b ≡ 10 → first_lines (suc count) (b ∷ bytes) ≡ b ∷ first_lines count bytes
first_end count b bytes e = ap (λ (t : Bool). b ∷ cond t (first_lines count bytes) (first_lines (suc count) bytes)) (equal b 10 e)

pub first_on : (count b : ℕ) (bytes : List ℕ) → b ≢ 10 → first_lines (suc count) (b ∷ bytes) ≡ b ∷ first_lines (suc count) bytes
first_on count b bytes ne = ap (λ (t : Bool). b ∷ cond t (first_lines count bytes) (first_lines (suc count) bytes)) (not_equal b 10 ne)

-- behind what was read of the first of them, if there is one
abbrev behind : ℕ → List ℕ → List ℕ → List ℕ
behind zero begun text = text
behind (suc count) begun text = begun ++ text

behind_nothing : (count : ℕ) (text : List ℕ) → behind count [] text ≡ text
behind_nothing zero text = refl
behind_nothing (suc count) text = refl

first_from : (count : ℕ) (begun file : List ℕ) → count ≤ length (lines_from begun file) → behind count begun (first_lines count file) ≡ ended (take count (lines_from begun file))
first_from zero begun file le = refl
first_from (suc count) begun [] le = absurd (omega arith)
first_from (suc count) begun (b ∷ bytes) le = elim (cases_eq b 10) [
  | inl e ↦
      ap (λ (t : List ℕ). begun ++ t) (first_end count b bytes e)
      ∙ ap (λ (x : ℕ). begun ++ x ∷ first_lines count bytes) e
      ∙ ap (λ (t : List ℕ). begun ++ 10 ∷ t) (sym (behind_nothing count (first_lines count bytes)) ∙ first_from count [] bytes (omega (arith, ap length (lines_end begun b bytes e))))
      ∙ ap (λ (ls : List (List ℕ)). ended (take (suc count) ls)) (sym (lines_end begun b bytes e))
  | inr ne ↦
      ap (λ (t : List ℕ). begun ++ t) (first_on count b bytes ne)
      ∙ sym (append_assoc begun (b ∷ []) (first_lines (suc count) bytes))
      ∙ first_from (suc count) (begun ++ b ∷ []) bytes (omega (arith, ap length (lines_on begun b bytes ne)))
      ∙ ap (λ (ls : List (List ℕ)). ended (take (suc count) ls)) (sym (lines_on begun b bytes ne))
]

pub first_ended : (count : ℕ) (file : List ℕ) → count ≤ length (lines_in file) → first_lines count file ≡ ended (take count (lines_in file))
first_ended count file le = sym (behind_nothing count (first_lines count file)) ∙ first_from count [] file le

first_all : (count : ℕ) (begun file : List ℕ) → length (lines_from begun file) < count → first_lines count file ≡ file
first_all zero begun file lt = absurd (omega arith)
first_all (suc count) begun [] lt = refl
first_all (suc count) begun (b ∷ bytes) lt = elim (cases_eq b 10) [
  | inl e ↦ first_end count b bytes e ∙ ap (λ (t : List ℕ). b ∷ t) (first_all count [] bytes (omega (arith, ap length (lines_end begun b bytes e))))
  | inr ne ↦ first_on count b bytes ne ∙ ap (λ (t : List ℕ). b ∷ t) (first_all (suc count) (begun ++ b ∷ []) bytes (omega (arith, ap length (lines_on begun b bytes ne))))
]

pub first_whole : (count : ℕ) (file : List ℕ) → length (lines_in file) < count → first_lines count file ≡ file
first_whole count file lt = first_all count [] file lt

-- a file that has grown

pub keep_numbers : (known file : List ℕ) → BeginsWith known file → take (length (lines_in known)) (lines_in file) ≡ lines_in known
keep_numbers known file begins =
    let lines = lines_in known in
    let more = drop (length known) file in
    let grown : file ≡ ended lines ++ (remainder_in known ++ more) =
    sym (take-append-drop (length known) file) ∙ ap (λ (t : List ℕ). t ++ more) (begins ∙ sym (whole known)) ∙ append_assoc (ended lines) (remainder_in known) more in
    ap (λ (f : List ℕ). take (length lines) (lines_in f)) grown ∙ ap (take (length lines)) (lines_more lines (remainder_in known ++ more) (lacking known).0)
    ∙ take_at lines (lines_in (remainder_in known ++ more)) (length lines) refl
