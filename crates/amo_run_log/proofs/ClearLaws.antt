-- This file proves what clearance says of a line, and what stays clear.
use Rattle.std.proofs.Common.{◌≡◌, ◌≢◌, inl, inr, ⊎_elim, ℕ, zero, suc, ◌+◌, ◌-◌, ◌<◌, Bool, true, false, ◌&&◌, List, [], ◌∷◌, ◌++◌, Some, None, length, refl, sym, ap, subst, ◌∙◌, arith}
use Rattle.std.specs.Prelude.{slice_get}
use Rattle.std.proofs.lemmas.Bool.{and_parts, cases_eq}
use Rattle.amo_run_log.specs.declared.clearance.AttemptId.{AttemptId}
use Rattle.amo_run_log.specs.declared.entry.Entry.{Entry}
use Rattle.amo_run_log.specs.declared.entry.Entry.TheVariants.{Intent, Answer as Answered}
use Rattle.amo_run_log.specs.declared.entry.Outcome.{Outcome}
use Rattle.amo_run_log.specs.declared.finding.Finding.{Finding}
use Rattle.amo_run_log.specs.declared.journal.Attempt.{Attempt}
use Rattle.amo_run_log.specs.Clearance.{IsClear, IsNoIntentAt, IsOpened, IsOther, IsStanding}
use Rattle.amo_run_log.specs.Findings.{is_undone}
use Rattle.amo_run_log.specs.Journals.{answered, is_line, noted}
use Rattle.amo_run_log.specs.Open.{reopens, is_open}
use Rattle.amo_run_log.proofs.Clearances.{by_serial}
use Rattle.amo_run_log.proofs.FindingLaws.{undone_more}
use Rattle.amo_run_log.proofs.OpenLaws.{with, head, tail, is_equal, to_serial, intent_is}
use Rattle.amo_run_log.proofs.OpenMeaning.{law_open, law_is_open}
use Rattle.std.specs.Prelude.{◌==◌}

-- the place of one journal, and the others

pub here : {A : Type 0} (before after : List A) (x y : A) (p : ℕ) → p ≡ length before → slice_get (before ++ x ∷ after) p ≡ Some y → x ≡ y
here [] after x y zero is at = cc
here [] after x y (suc p) is at = absurd (omega arith)
here (b ∷ before) after x y zero is at = absurd (omega arith)
here (b ∷ before) after x y (suc p) is at = here before after x y p (omega arith) at

there : {A : Type 0} (before after : List A) (x y : A) (p : ℕ) → p ≢ length before → slice_get (before ++ x ∷ after) p ≡ slice_get (before ++ y ∷ after) p
there [] after x y zero isnt = absurd (isnt refl)
there [] after x y (suc p) isnt = refl
there (b ∷ before) after x y zero isnt = refl
there (b ∷ before) after x y (suc p) isnt = there before after x y p (λ is. isnt (omega (arith, is)))

put : {A : Type 0} (before after : List A) (x : A) (p : ℕ) → p ≡ length before → slice_get (before ++ x ∷ after) p ≡ Some x
put [] after x zero is = refl
put [] after x (suc p) is = absurd (omega arith)
put (b ∷ before) after x zero is = absurd (omega arith)
put (b ∷ before) after x (suc p) is = put before after x p (omega arith)

-- the places before the last one

pub not_last : {A : Type 0} (xs : List A) (x y : A) (s : ℕ) → s ≢ length xs → slice_get (xs ++ x ∷ []) s ≡ Some y → slice_get xs s ≡ Some y
not_last [] x y zero isnt at = absurd (isnt refl)
not_last [] x y (suc s) isnt at = at
not_last (z ∷ xs) x y zero isnt at = at
not_last (z ∷ xs) x y (suc s) isnt at = not_last xs x y s (λ is. isnt (omega (arith, is))) at

still : {A : Type 0} (xs : List A) (x y : A) (s : ℕ) → slice_get xs s ≡ Some y → (slice_get (xs ++ x ∷ []) s ≡ Some y) × (s < length xs)
still [] x y s at = absurd (cc)
still (z ∷ xs) x y zero at = (at, omega arith)
still (z ∷ xs) x y (suc s) at = let rest = still xs x y s at in (rest.0, omega (arith, rest.1))

-- what an answer leaves of each attempt

pub record IsAnswered (es : List Attempt) (s : ℕ) (e : Attempt) : Type 0 where
  pub was : Attempt
  pub at : slice_get es s ≡ Some was
  pub line : was.line ≡ e.line
  pub opened : reopens was.answer ≡ true → reopens e.answer ≡ true

answered_first : (d : Attempt) (es : List Attempt) (s : ℕ) (a : Outcome) (e : Attempt) → slice_get (with d a ∷ es) s ≡ Some e → d.answer ≡ None → IsAnswered (d ∷ es) s e
answered_first d es zero a e at none =
    let same : with d a ≡ e = cc in
    record { was = d; at = refl; line = ap (λ (x : Attempt). x.line) same; opened = λ opened. let both : false ≡ true = sym (ap reopens none) ∙ opened in absurd (cc) }
answered_first d es (suc s) a e at none = record { was = e; at = at; line = refl; opened = λ opened. opened }

answered_later : (d : Attempt) (es rest : List Attempt) (s : ℕ) (e : Attempt) → ((s : ℕ) → slice_get rest s ≡ Some e → IsAnswered es s e) → slice_get (d ∷ rest) s ≡ Some e → IsAnswered (d ∷ es) s e
answered_later d es rest zero e each at = record { was = e; at = at; line = refl; opened = λ opened. opened }
answered_later d es rest (suc s) e each at = let one = each s at in record { was = one.was; at = one.at; line = one.line; opened = one.opened }

pub answered_each : (es next : List Attempt) (i s : ℕ) (a : Outcome) (e : Attempt) → answered es i a ≡ Some next → slice_get next s ≡ Some e → IsAnswered es s e
answered_each [] next i s a e h at = absurd (cc)
answered_each (d ∷ es) next zero s a e h at =
    let (none, is) = head d es next a d.answer h in answered_first d es s a e (ap (λ (l : List Attempt). slice_get l s) is ∙ at) none
answered_each (d ∷ es) next (suc i) s a e h at =
    let (rest, is_rest, is) = tail d (answered es i a) next h in
    answered_later d es rest s e (λ s at. answered_each es rest i s a e is_rest at) (ap (λ (l : List Attempt). slice_get l s) is ∙ at)

module _ (findings : List Finding) (own : AttemptId) (line : ℕ) where
  -- clearance by the places of journals and attempts
  abbrev Each : List (List Attempt) → Type 0
  Each journals = (p s : ℕ) (es : List Attempt) (e : Attempt) → slice_get journals p ≡ Some es → slice_get es s ≡ Some e → e.line ≡ line → IsOther own (p + 1) (s + 1) → IsOpened findings (p + 1) (s + 1) e

  to_each : (journals : List (List Attempt)) → IsClear findings journals own line → Each journals
  to_each journals clear p s es e journal at is other =
      let w : p ≡ p + 1 - 1 = omega arith in
      let n : s ≡ s + 1 - 1 = omega arith in
      clear (p + 1) (s + 1) e (omega arith, omega arith, es, subst (λ (x : ℕ). slice_get journals x ≡ Some es) w journal, subst (λ (x : ℕ). slice_get es x ≡ Some e) n at, is) other

  from_each : (journals : List (List Attempt)) → Each journals → IsClear findings journals own line
  from_each journals each worker serial e a other =
      let same : worker - 1 + 1 ≡ worker = omega (arith, a.0) in
      by_serial findings own line worker serial e
      (λ is other. subst (λ (w : ℕ). IsOpened findings w (serial - 1 + 1) e) same (each (worker - 1) (serial - 1) a.2 e a.3 a.4 is (subst (λ (w : ℕ). IsOther own w (serial - 1 + 1)) (sym same) other)))
      a.1 a.5 other

  pub law_clear : (journals : List (List Attempt)) (other : AttemptId) → IsClear findings journals own line → IsStanding findings journals own line other → ⊥
  law_clear journals other clear stands = stands.3 (clear other.worker other.serial stands.0 stands.1 stands.2)

  pub law_is_clear : (journals : List (List Attempt)) → ((other : AttemptId) → IsStanding findings journals own line other → ⊥) → IsClear findings journals own line
  law_is_clear journals none worker serial e a other = by_tests (reopens e.answer) (is_undone findings worker serial) refl refl
    where
      by_tests : (r f : Bool) → reopens e.answer ≡ r → is_undone findings worker serial ≡ f → IsOpened findings worker serial e
      by_tests true f is_r is_f = inl is_r
      by_tests false true is_r is_f = inr is_f
      by_tests false false is_r is_f = absurd (none (record { worker = worker; serial = serial }) (e, a, other, ⊎_elim (λ opened. differ (sym is_r ∙ opened)) (λ opened. differ (sym is_f ∙ opened))))
        where
          differ : false ≡ true → ⊥
          differ is = cc

  -- one journal is another, of which each attempt at the line was opened if it is in the first one
  other_journal : (before after : List (List Attempt)) (es next : List Attempt)
      → ((worker s : ℕ) (e : Attempt) → slice_get next s ≡ Some e → e.line ≡ line → ((was : Attempt) → slice_get es s ≡ Some was → was.line ≡ line → IsOpened findings worker (s + 1) was) → IsOpened findings worker (s + 1) e)
      → Each (before ++ es ∷ after) → Each (before ++ next ∷ after)
  other_journal before after es next follows each p s js e journal at is other = elim (cases_eq p (length before)) [
    | inl same ↦
        let journal_is : next ≡ js = here before after next js p same journal in
        follows (p + 1) s e (subst (λ (l : List Attempt). slice_get l s ≡ Some e) (sym journal_is) at) is (λ was was_at was_is. each p s es was (put before after es p same) was_at was_is other)
    | inr differs ↦ each p s js e (there before after es next p differs ∙ journal) at is other
  ]

  noted_stays : (count : ℕ) (es next : List Attempt) (entry : Entry) → IsNoIntentAt line entry → noted count es entry ≡ Some next
      → (worker s : ℕ) (e : Attempt) → slice_get next s ≡ Some e → e.line ≡ line → ((was : Attempt) → slice_get es s ≡ Some was → was.line ≡ line → IsOpened findings worker (s + 1) was) → IsOpened findings worker (s + 1) e
  noted_stays count es next (Intent n m t) isnt h worker s e at is opened =
      let intent : Attempt = record { line = m; time = t; answer = None } in
      let pushed = intent_is count findings worker line es next ((n == length es + 1) && is_line count m) intent h in
      let at_pushed : slice_get (es ++ intent ∷ []) s ≡ Some e = ap (λ (l : List Attempt). slice_get l s) pushed.1 ∙ at in
      elim (cases_eq s (length es)) [
        | inl same ↦ let last : intent ≡ e = here es [] intent e s same at_pushed in absurd (isnt (ap (λ (x : Attempt). x.line) last ∙ is))
        | inr differs ↦ opened e (not_last es intent e s differs at_pushed) is
      ]
  noted_stays count es next (Answered n a) isnt h worker s e at is opened =
      to_serial count findings worker line es next n a (λ i _ answered_so.
      let one = answered_each es next i s a e answered_so at in
      ⊎_elim (λ r. inl (one.opened r)) (λ f. inr f) (opened one.was one.at (one.line ∙ is))) h

  pub law_entries : (count : ℕ) (before after : List (List Attempt)) (es next : List Attempt) (entry : Entry) → IsNoIntentAt line entry → noted count es entry ≡ Some next
      → IsClear findings (before ++ es ∷ after) own line → IsClear findings (before ++ next ∷ after) own line
  law_entries count before after es next entry isnt h clear =
      from_each (before ++ next ∷ after) (other_journal before after es next (noted_stays count es next entry isnt h) (to_each (before ++ es ∷ after) clear))

pub law_findings : (findings more : List Finding) (journals : List (List Attempt)) (own : AttemptId) (line : ℕ) → IsClear findings journals own line → IsClear (findings ++ more) journals own line
law_findings findings more journals own line clear worker serial e a other =
    ⊎_elim (λ r. inl r) (λ f. inr (undone_more findings more worker serial f)) (clear worker serial e a other)

module _ (count : ℕ) (findings : List Finding) (before after : List (List Attempt)) (es next : List Attempt) (serial line time : ℕ) (h : noted count es (Intent serial line time) ≡ Some next) where
  abbrev intent : Attempt
  intent = record { line = line; time = time; answer = None }

  abbrev own : AttemptId
  own = record { worker = length before + 1; serial = serial }

  parts : (((serial == length es + 1) && is_line count line) ≡ true) × (es ++ intent ∷ [] ≡ next)
  parts = intent_is count findings 1 line es next ((serial == length es + 1) && is_line count line) intent h

  serial_is : serial ≡ length es + 1
  serial_is = is_equal serial (length es + 1) (and_parts (serial == length es + 1) (is_line count line) parts.0).0

  pub law_open_without : IsClear findings (before ++ next ∷ after) own line → is_open findings (before ++ es ∷ after) line ≡ true
  law_open_without clear = law_is_open findings line (before ++ es ∷ after) (λ p s js e journal at is. elim (cases_eq p (length before)) [
    | inl same ↦
        let journal_is : es ≡ js = here before after es js p same journal in
        let kept = still es intent e s (subst (λ (l : List Attempt). slice_get l s ≡ Some e) (sym journal_is) at) in
        to_each findings own line (before ++ next ∷ after) clear p s next e (put before after next p same) (subst (λ (l : List Attempt). slice_get l s ≡ Some e) parts.1 kept.0) is
        (inr (λ one. absurd (omega (arith, one, serial_is, kept.1))))
    | inr differs ↦ to_each findings own line (before ++ next ∷ after) clear p s js e (there before after next es p differs ∙ journal) at is (inl (λ one. differs (omega (arith, one))))
  ])

  pub law_clear_with : is_open findings (before ++ es ∷ after) line ≡ true → IsClear findings (before ++ next ∷ after) own line
  law_clear_with is_it = from_each findings own line (before ++ next ∷ after) (λ p s js e journal at is other. elim (cases_eq p (length before)) [
    | inl same ↦
        let journal_is : next ≡ js = here before after next js p same journal in
        let at_pushed : slice_get (es ++ intent ∷ []) s ≡ Some e = ap (λ (l : List Attempt). slice_get l s) (parts.1 ∙ journal_is) ∙ at in
        let differs : s ≢ length es = λ one. ⊎_elim (λ w. w (omega (arith, same))) (λ n. n (omega (arith, one, serial_is))) other in
        law_open findings line (before ++ es ∷ after) is_it p s es e (put before after es p same) (not_last es intent e s differs at_pushed) is
    | inr differs ↦ law_open findings line (before ++ es ∷ after) is_it p s js e (there before after es next p differs ∙ journal) at is
  ])
