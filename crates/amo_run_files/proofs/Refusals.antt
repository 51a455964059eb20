-- Which lines may stand, and which file is taken.
use Rattle.std.proofs.Common.{◌≡◌, ◌≢◌, inl, inr, ℕ, ◌+◌, ◌-◌, ◌<◌, ◌≤◌, Bool, true, false, cond, not, ◌||◌, List, [], ◌∷◌, ◌++◌, length, get_or, take, Option, Some, None, refl, sym, ap, subst, ◌∙◌, arith, All, AllPairs, Contains, append-nil, get_or-take, length-take-le, lt-ltb, le-ltb, ltb-false}
use Rattle.std.specs.Prelude.{nat_lt, ◌==◌}
use Rattle.std.specs.List.{AllByRecursion, list_any}
use Rattle.std.specs.Option.{option_or}
use Rattle.std.specs.Str.{bytes_eq, is_utf8}
use Rattle.std.proofs.lemmas.Bool.{or_parts, cases_lt, eqb-false, false_from_ne_true, not-false}
use Rattle.std.proofs.lemmas.Bool.Decides.{nat_tests}
use Rattle.std.proofs.lemmas.List.{get_or_default}
use Rattle.std.proofs.lemmas.List.Folds.{list_any_at}
use Rattle.std.proofs.lemmas.Map.Views.{Contains-from_any}
use Rattle.std.proofs.lemmas.Slice.Eq.{bytes_eq-Decides}
use Rattle.std.proofs.lemmas.Str.{IsUtf8-from_is_utf8, is_utf8-from_IsUtf8}
use Rattle.amo_run_log.specs.Texts.{ended}
use Rattle.amo_run_log.proofs.Words.{Lacks, not_equal}
use Rattle.amo_run_files.specs.declared.fault.JobsFault.{JobsFault}
use Rattle.amo_run_files.specs.declared.fault.JobsFault.TheVariants.{Memory, Refused}
use Rattle.amo_run_files.specs.declared.fault.Why.{Why}
use Rattle.amo_run_files.specs.declared.fault.Why.TheVariants.{Empty, Nul, CarriageReturn, NotText, TooLong, Repeated, NoEnd}
use Rattle.amo_run_files.specs.declared.known.TheConstants.{MAX_LINE}
use Rattle.amo_run_files.specs.Lines.{lines_in, remainder_in}
use Rattle.amo_run_files.specs.Jobs.{IsLine, AreJobs}
use Rattle.amo_run_files.specs.Refusals.{has_byte, wrong_with, why_not, why_remainder, why_at, IsTaken, IsRefused, MayStand, IsFirstRefused}
use Rattle.amo_run_files.proofs.Cuts.{only}

or_none : {A : Type 0} (a b : Option A) → option_or a b ≡ None → (a ≡ None) × (b ≡ None)
or_none None b h = (refl, h)
or_none (Some x) b h = absurd (cc)

skip : {A : Type 0} (t : Bool) (x : A) (o : Option A) → cond t (Some x) o ≡ None → (t ≡ false) × (o ≡ None)
skip true x o h = absurd (cc)
skip false x o h = (refl, h)

skipped : {A : Type 0} (t : Bool) (x : A) (o : Option A) → t ≡ false → o ≡ None → cond t (Some x) o ≡ None
skipped t x o f none = ap (λ (s : Bool). cond s (Some x) o) f ∙ none

-- a line on its own

pub lacks_byte : (c : ℕ) (line : List ℕ) → has_byte c line ≡ false → Lacks c line
lacks_byte c [] h = tt
lacks_byte c (b ∷ line) h = let parts = or_parts (b == c) (has_byte c line) h in (eqb-false b c parts.0, lacks_byte c line parts.1)

has_not : (c : ℕ) (line : List ℕ) → Lacks c line → has_byte c line ≡ false
has_not c [] lacks = refl
has_not c (b ∷ line) lacks = ap (λ (t : Bool). t || has_byte c line) (not_equal b c lacks.0) ∙ has_not c line lacks.1

not_nothing : (n : ℕ) → (n == 0) ≡ false → 0 < n
not_nothing n h = grind (arith, nat_tests)

not_empty : (n : ℕ) → 0 < n → (n == 0) ≡ false
not_empty n h = grind (arith, nat_tests)

line_is : (line : List ℕ) → wrong_with line ≡ None → IsLine line
line_is line h =
    let (some, after_some) = skip (length line == 0) Empty _ h in
    let (no_nul, after_nul) = skip (has_byte 0 line) Nul _ after_some in
    let (no_return, after_return) = skip (has_byte 13 line) CarriageReturn _ after_nul in
    let (text, after_text) = skip (not (is_utf8 line)) NotText _ after_return in
    let (short, after_short) = skip (nat_lt MAX_LINE (length line)) TooLong _ after_text in
    record {
      some = not_nothing (length line) some;
      no_nul = lacks_byte 0 line no_nul;
      no_return = lacks_byte 13 line no_return;
      text = IsUtf8-from_is_utf8 line (not-false (is_utf8 line) text);
      short = ltb-false MAX_LINE (length line) short;
    }

line_may : (line : List ℕ) → IsLine line → wrong_with line ≡ None
line_may line is =
    skipped (length line == 0) Empty _ (not_empty (length line) is.some)
    (skipped (has_byte 0 line) Nul _ (has_not 0 line is.no_nul)
    (skipped (has_byte 13 line) CarriageReturn _ (has_not 13 line is.no_return)
    (skipped (not (is_utf8 line)) NotText _ (ap not (is_utf8-from_IsUtf8 line is.text))
    (skipped (nat_lt MAX_LINE (length line)) TooLong None (le-ltb MAX_LINE (length line) is.short) refl))))

-- a line behind others

pub may : (before : List (List ℕ)) (line : List ℕ) → why_not before line ≡ None → IsLine line × ¬ (Contains before line)
may before line h =
    let (none, new) = or_none (wrong_with line) (cond (list_any (bytes_eq line) before) (Some Repeated) None) h in
    let (apart, nothing) = skip (list_any (bytes_eq line) before) Repeated None new in (
      line_is line none,
      λ at. let found : list_any (bytes_eq line) before ≡ true = list_any_at (bytes_eq line) before at.0 line at.1 ((bytes_eq-Decides line (get_or before at.0 line)).1 (sym at.2)) in cc,
    )

pub must : (before : List (List ℕ)) (line : List ℕ) → IsLine line → ¬ (Contains before line) → why_not before line ≡ None
must before line is new =
    let apart : list_any (bytes_eq line) before ≡ false =
    false_from_ne_true (list_any (bytes_eq line) before) (λ found. new (Contains-from_any {eq = bytes_eq} (λ x y e. (bytes_eq-Decides x y).0 e) line before found)) in
    ap (λ (o : Option Why). option_or o (cond (list_any (bytes_eq line) before) (Some Repeated) None)) (line_may line is) ∙ ap (λ (t : Bool). cond t (Some Repeated) None) apart

pub jobs_are : (lines : List (List ℕ)) → MayStand lines → AllByRecursion (Lacks 10) lines → AreJobs lines
jobs_are lines stand ends = record { each = line_at; one_line = ends; distinct = apart }
  where
    line_at : All IsLine lines
    line_at k d lt = subst IsLine (get_or_default lines k [] d lt) (may (take k lines) (get_or lines k []) (stand k lt)).0

    apart : AllPairs (λ one other. one ≢ other) lines
    apart i j d before there same =
        let other = get_or lines j [] in
        let within : i < length (take j lines) = omega (arith, length-take-le j lines (omega arith)) in
        let is : get_or (take j lines) i other ≡ other =
        get_or-take j lines i other before ∙ get_or_default lines i other d (omega arith) ∙ same ∙ get_or_default lines j d [] there in
        (may (take j lines) other (stand j there)).1 (i, within, is)

-- the first line that may not stand
pub first_refused : (lines : List (List ℕ)) (i : ℕ) (why : Why) → i < length lines → why_not (take i lines) (get_or lines i []) ≡ Some why
    → ((k : ℕ) → k < i → why_not (take k lines) (get_or lines k []) ≡ None) → IsFirstRefused lines (Refused (i + 1) why)
first_refused lines i why lt is earlier =
    let same : i + 1 - 1 ≡ i = omega arith in
    (omega arith, omega arith, ap (λ (k : ℕ). why_not (take k lines) (get_or lines k [])) same ∙ is, λ k before. earlier k (omega arith))

-- a file

module _ (file : List ℕ) (cut : Bool) where
  at_line : (k : ℕ) → k < length (lines_in file) → why_at file cut k ≡ why_not (take k (lines_in file)) (get_or (lines_in file) k [])
  at_line k lt =
      ap (λ (t : Bool). cond t (why_not (take k (lines_in file)) (get_or (lines_in file) k [])) (why_remainder (lines_in file) (remainder_in file) cut)) (lt-ltb k (length (lines_in file)) lt)

  at_remainder : (k : ℕ) → length (lines_in file) ≤ k → why_at file cut k ≡ why_remainder (lines_in file) (remainder_in file) cut
  at_remainder k le =
      ap (λ (t : Bool). cond t (why_not (take k (lines_in file)) (get_or (lines_in file) k [])) (why_remainder (lines_in file) (remainder_in file) cut)) (le-ltb k (length (lines_in file)) le)

  pub taken : MayStand (lines_in file) → why_remainder (lines_in file) (remainder_in file) cut ≡ None → IsTaken file cut
  taken stand rest k le = elim (cases_lt k (length (lines_in file))) [ inl lt ↦ at_line k lt ∙ stand k lt | inr ge ↦ at_remainder k ge ∙ rest ]

  pub stands : IsTaken file cut → MayStand (lines_in file)
  stands all k lt = sym (at_line k lt) ∙ all k (omega arith)

  pub remainder_none : IsTaken file cut → why_remainder (lines_in file) (remainder_in file) cut ≡ None
  remainder_none all = sym (at_remainder (length (lines_in file)) (omega arith)) ∙ all (length (lines_in file)) (omega arith)

  pub refused_line : (fault : JobsFault) → IsFirstRefused (lines_in file) fault → IsRefused file cut fault
  refused_line Memory first = tt
  refused_line (Refused number why) first = (
    first.0,
    omega (arith, first.1),
    at_line (number - 1) first.1 ∙ first.2,
    λ k lt. at_line k (omega (arith, first.1)) ∙ first.3 k lt,
  )

  pub refused_remainder : (number : ℕ) (why : Why) → MayStand (lines_in file) → why_remainder (lines_in file) (remainder_in file) cut ≡ Some why → number ≡ length (lines_in file) + 1 → IsRefused file cut (Refused number why)
  refused_remainder number why stand rest is = (
    omega arith,
    omega arith,
    at_remainder (number - 1) (omega arith) ∙ rest,
    λ k lt. at_line k (omega arith) ∙ stand k (omega arith),
  )

-- if nothing is cut off, there is no remainder
pub no_remainder : (lines : List (List ℕ)) (rest : List ℕ) → why_remainder lines rest false ≡ None → rest ≡ []
no_remainder lines [] h = refl
no_remainder lines (b ∷ rest) h =
    absurd (ends (why_not lines (b ∷ rest))
    (sym (ap (λ (t : Bool). cond t None (option_or (why_not lines (b ∷ rest)) (Some NoEnd))) (not_equal (length (b ∷ rest)) 0 (λ e. omega (arith, e)))) ∙ h))
  where
    ends : (o : Option Why) → option_or o (Some NoEnd) ≡ None → ⊥
    ends None e = cc
    ends (Some w) e = cc

-- jobs are read back

may_stand : (lines : List (List ℕ)) → AreJobs lines → MayStand lines
may_stand lines are k lt = must (take k lines) line (are.each k [] lt) new
  where
    line : List ℕ
    line = get_or lines k []

    new : ¬ (Contains (take k lines) (get_or lines k []))
    new at =
        let size : length (take k lines) ≡ k = length-take-le k lines (omega arith) in
        let before : at.0 < k = omega (arith, at.1, size) in
        are.distinct at.0 k (get_or lines k []) before lt
        (sym (get_or-take k lines at.0 (get_or lines k []) before) ∙ at.2 ∙ get_or_default lines k [] (get_or lines k []) lt)

nothing_behind : (lines : List (List ℕ)) (cut : Bool) → why_remainder lines [] cut ≡ None
nothing_behind lines true = refl
nothing_behind lines false = refl

pub read_back : (jobs : List (List ℕ)) (cut : Bool) → AreJobs jobs → IsTaken (ended jobs) cut × (lines_in (ended jobs) ≡ jobs)
read_back jobs cut are =
    let all : ended jobs ++ [] ≡ ended jobs = append-nil (ended jobs) in
    let file = only jobs [] are.one_line tt in
    let lines : lines_in (ended jobs) ≡ jobs = sym (ap lines_in all) ∙ file.0 in
    let rest : remainder_in (ended jobs) ≡ [] = sym (ap remainder_in all) ∙ file.1 in (
      taken (ended jobs) cut (subst (λ (ls : List (List ℕ)). MayStand ls) (sym lines) (may_stand jobs are)) (ap (λ (r : List ℕ). why_remainder (lines_in (ended jobs)) r cut) rest ∙ nothing_behind (lines_in (ended jobs)) cut),
      lines,
    )
