-- An operator's command knows a run by its logs. It appends an answer only to an attempt that is
-- final or whose outcome a journal has.
use Rattle.std.proofs.Common.{◌≡◌, ◌⊎◌, inl, inr, ⊎_elim, ℕ, zero, suc, ◌+◌, ◌≤◌, Bool, true, false, cond, ◌&&◌, ◌||◌, List, [], ◌∷◌, ◌++◌, length, map, get_or, Option, Some, None, refl, sym, ap, subst, ◌∙◌, arith}
use Rattle.std.specs.Prelude.{slice_get, slice_set, ◌-◌, ◌==◌, not, is_some, nat_le}
use Rattle.std.specs.List.{list_all, list_any}
use Rattle.std.proofs.lemmas.Bool.{and_parts}
use Rattle.amo_safety_by_journals.specs.Model.{IsOneOf, line_of}
use Rattle.amo_run_files.specs.Jobs.{line_of as text_of_line}
use Rattle.amo_run_log.specs.declared.entry.Entry.{Entry}
use Rattle.amo_run_log.specs.declared.entry.Entry.TheVariants.{Intent, Answer as Answered}
use Rattle.amo_run_log.specs.declared.entry.Outcome.{Outcome}
use Rattle.amo_run_log.specs.declared.entry.Outcome.TheVariants.{Doubt}
use Rattle.amo_run_log.specs.declared.finding.Finding.{Finding}
use Rattle.amo_run_log.specs.declared.finding.Resolution.{Resolution}
use Rattle.amo_run_log.specs.declared.finding.Resolution.TheVariants.{NotDone}
use Rattle.amo_run_log.specs.declared.journal.Attempt.{Attempt}
use Rattle.amo_run_log.specs.Entries.{append_in, entries_in}
use Rattle.amo_run_log.specs.Findings.{findings_in, is_of}
use Rattle.amo_run_log.specs.Journals.{attempts_in, is_line, journal_from, journal_of, noted, pending_from}
use Rattle.amo_run_log.proofs.OpenLaws.{is_equal}
use Rattle.amo_run_log.proofs.Words.{and_then_some}
use Rattle.amo_status.specs.declared.answering.Quiet.{Quiet}
use Rattle.amo_status.specs.declared.refusal.Refusal.{Refusal}
use Rattle.amo_status.specs.declared.refusal.Refusal.TheVariants.{NoIntent, OtherLine, NotClosing, NotAsked, Running, AnsweredOtherwise, AnsweredSo, EndUnknown, EndAhead, TooYoung}
use Rattle.amo_status.specs.declared.said.Said.{Said}
use Rattle.amo_status.specs.declared.state.AttemptId.{AttemptId}
use Rattle.amo_status.specs.Answers.{first_reason, is_asked, is_idle, refusal_now, refusal_of, untouched_in, untouched_of, wait_of}
use Rattle.amo_status.specs.Standings.{attempt_of}
use Rattle.amo_status.specs.States.{is_among}
use Rattle.amo_status.proofs.Taken.{may}
use Rattle.amo_operator.specs.Judging.{Judged, again_at, finding_of, is_text_of, judged_all, judged_for, judged_with, none_judged, quiet_at}
use Rattle.amo_operator.specs.Knowing.{are_in_place, are_readable, doubted, doubted_of, journals_in, known_by, known_in, or_none, pending_in, pending_of, with_doubt}
use Rattle.amo_operator.specs.Phase.{Known, Texts}
use Rattle.amo_program_safety.specs.Texts.{entries_of}
use Rattle.amo_program_safety.proofs.Texts.{answered_get, get_pushed, of_both, of_same, pending_lines, text_says}

-- A journal has the outcome of this attempt.
pub record HasOutcome (journals : List (List Attempt)) (worker serial : ℕ) : Type 0 where
  pub k : ℕ
  pub i : ℕ
  pub es : List Attempt
  pub e : Attempt
  pub c : Outcome
  pub worker_is : worker ≡ suc k
  pub serial_is : serial ≡ suc i
  pub journal : slice_get journals k ≡ Some es
  pub attempt : slice_get es i ≡ Some e
  pub outcome : e.answer ≡ Some c

-- The attempt is in this list of final attempts.
abbrev pub IsFinalOf : List AttemptId → (worker serial : ℕ) → Type 0
IsFinalOf finals worker serial = IsOneOf finals (record { worker = worker; serial = serial })

-- ---- lists

-- Each element of a mapped list is the function's value of some element of the list.
of_map : {A B : Type 0} (f : A → B) (xs : List A) (y : B) → IsOneOf (map f xs) y → (x : A) × IsOneOf xs x × (f x ≡ y)
of_map f [] y one = absurd one
of_map f (x ∷ xs) y (inl is) = (x, inl refl, is)
of_map f (x ∷ xs) y (inr one) = let (z, there, is) = of_map f xs y one in (z, inr there, is)

get_map : {A B : Type 0} (f : A → B) (xs : List A) (i : ℕ) (y : B) → slice_get (map f xs) i ≡ Some y → (x : A) × (slice_get xs i ≡ Some x) × (f x ≡ y)
get_map f [] i y h = absurd (cc h)
get_map f (x ∷ xs) zero y h = (x, refl, cc)
get_map f (x ∷ xs) (suc i) y h = get_map f xs i y h

map_length : {A B : Type 0} (f : A → B) (xs : List A) → length (map f xs) ≡ length xs
map_length f [] = refl
map_length f (x ∷ xs) = ap suc (map_length f xs)

get_all : {A : Type 0} (test : A → Bool) (xs : List A) (i : ℕ) (x : A) → list_all test xs ≡ true → slice_get xs i ≡ Some x → test x ≡ true
get_all test [] i x all is = absurd (cc is)
get_all test (y ∷ xs) zero x all is = let same : y ≡ x = cc is in ap test (sym same) ∙ (and_parts (test y) (list_all test xs) all).0
get_all test (y ∷ xs) (suc i) x all is = get_all test xs i x (and_parts (test y) (list_all test xs) all).1 is

-- The list of lists has an element at this index, or the default `[]` takes its place.
some_or_none : {A : Type 0} (xs : List (List A)) (k : ℕ) → ((ys : List A) × (slice_get xs k ≡ Some ys) × (get_or xs k [] ≡ ys)) ⊎ (get_or xs k [] ≡ [])
some_or_none [] k = inr refl
some_or_none (ys ∷ xs) zero = inl (ys, refl, refl)
some_or_none (ys ∷ xs) (suc k) = some_or_none xs k

-- Each element of a list with one replaced element is an old element or the new one.
set_cases : {A : Type 0} (xs : List A) (k : ℕ) (y : A) (j : ℕ) (x : A) → slice_get (slice_set xs k y) j ≡ Some x → (slice_get xs j ≡ Some x) ⊎ ((j ≡ k) × (y ≡ x))
set_cases [] k y j x is = inl is
set_cases (z ∷ xs) zero y zero x is = inr (refl, cc)
set_cases (z ∷ xs) zero y (suc j) x is = inl is
set_cases (z ∷ xs) (suc k) y zero x is = inl is
set_cases (z ∷ xs) (suc k) y (suc j) x is = ⊎_elim (λ old. inl old) (λ new. inr (ap suc new.0, new.1)) (set_cases xs k y j x is)

-- If a serial number has a line, the number is at least 1.
pub numbered : (lines : List ℕ) (serial line : ℕ) → line_of lines serial ≡ Some line → 1 ≤ serial
numbered lines zero line h = absurd (cc h)
numbered lines (suc i) line h = omega arith

-- ---- the answers that a command takes

-- The attempt e is the one of this worker and serial number in these journals.
abbrev StandsIn : List (List Attempt) → (worker serial : ℕ) → Attempt → Type 0
StandsIn journals worker serial e = (k : ℕ) × (i : ℕ) × (es : List Attempt) × (worker ≡ suc k) × (serial ≡ suc i) × (slice_get journals k ≡ Some es) × (slice_get es i ≡ Some e)

attempt_stands : (journals : List (List Attempt)) (worker serial : ℕ) (e : Attempt) → attempt_of journals worker serial ≡ Some e → StandsIn journals worker serial e
attempt_stands journals zero serial e h = absurd (cc h)
attempt_stands journals (suc k) zero e h = by_test (nat_le 1 (suc k)) h
  where
    by_test : (b : Bool) → cond (b && false) (slice_get (get_or journals (suc k - 1) []) (0 - 1)) None ≡ Some e → StandsIn journals (suc k) zero e
    by_test true none = absurd (cc none)
    by_test false none = absurd (cc none)
attempt_stands journals (suc k) (suc i) e h = by_test (nat_le 1 (suc k) && nat_le 1 (suc i)) h
  where
    at_worker : suc k - 1 ≡ k
    at_worker = omega arith

    at_serial : suc i - 1 ≡ i
    at_serial = omega arith

    by_test : (b : Bool) → cond b (slice_get (get_or journals (suc k - 1) []) (suc i - 1)) None ≡ Some e → StandsIn journals (suc k) (suc i) e
    by_test false none = absurd (cc none)
    by_test true some =
        let here : slice_get (get_or journals k []) i ≡ Some e =
        ap (λ (n : ℕ). slice_get (get_or journals n []) i) (sym at_worker) ∙ ap (slice_get (get_or journals (suc k - 1) [])) (sym at_serial) ∙ some in
        ⊎_elim
        (λ (found : (es : List Attempt) × (slice_get journals k ≡ Some es) × (get_or journals k [] ≡ es)).
        let (es, is, same) = found in
        (k, i, es, refl, refl, is, ap (λ (l : List Attempt). slice_get l i) (sym same) ∙ here))
        (λ (no : get_or journals k [] ≡ []).
        let none : None ≡ Some e = ap (λ (l : List Attempt). slice_get l i) (sym no) ∙ here in
        absurd (cc none))
        (some_or_none journals k)

is_final : (finals : List AttemptId) (worker serial : ℕ) → is_among finals worker serial ≡ true → IsFinalOf finals worker serial
is_final [] worker serial h = absurd (cc h)
is_final (f ∷ finals) worker serial h = by_test (λ more. is_final finals worker serial more) ((f.worker == worker) && (f.serial == serial)) refl h
  where
    by_test : (is_among finals worker serial ≡ true → IsFinalOf finals worker serial) → (b : Bool) → ((f.worker == worker) && (f.serial == serial)) ≡ b → (b || is_among finals worker serial) ≡ true → IsFinalOf (f ∷ finals) worker serial
    by_test rest false isnt more = inr (rest more)
    by_test rest true it here =
        let parts = and_parts (f.worker == worker) (f.serial == serial) it in
        let own : f.worker ≡ worker = is_equal f.worker worker parts.0 in
        let at : f.serial ≡ serial = is_equal f.serial serial parts.1 in
        inl (ap (λ (w : ℕ). record { worker = w; serial = f.serial }) own ∙ ap (λ (s : ℕ). record { worker = worker; serial = s }) at)

-- An attempt that may be asked about has an outcome, or is final.
asked_about : (final : Bool) (answer : Option Outcome) → is_asked final answer ≡ true → ((c : Outcome) × (answer ≡ Some c)) ⊎ (final ≡ true)
asked_about final None h = inr h
asked_about final (Some c) h = inl (c, refl)

-- A command takes an answer only to an attempt that is final or has a known outcome.
pub taken_now : (quiet : Option Quiet) (findings : List Finding) (journals : List (List Attempt)) (finals : List AttemptId) (worker serial line : ℕ) (verdict : Resolution)
    → refusal_now quiet findings journals finals worker serial line verdict ≡ None → HasOutcome journals worker serial ⊎ IsFinalOf finals worker serial
taken_now quiet findings journals finals worker serial line verdict h =
    let none : refusal_of findings journals finals worker serial line verdict ≡ None =
    first_none (refusal_of findings journals finals worker serial line verdict) (wait_of quiet verdict (attempt_of journals worker serial)) h in
    let (e, there, of_line, asked) = (may findings journals finals worker serial line verdict none).asked in
    let (k, i, es, own, at, journal, attempt) = attempt_stands journals worker serial e there in
    ⊎_elim
    (λ (known : (c : Outcome) × (e.answer ≡ Some c)).
    let (c, is) = known in
    inl (record { k = k; i = i; es = es; e = e; c = c; worker_is = own; serial_is = at; journal = journal; attempt = attempt; outcome = is }))
    (λ (final : is_among finals worker serial ≡ true). inr (is_final finals worker serial final))
    (asked_about (is_among finals worker serial) e.answer asked)
  where
    first_none : (first second : Option Refusal) → first_reason first second ≡ None → first ≡ None
    first_none None second none = refl
    first_none (Some why) second none = absurd (cc none)

-- The command appends one more answer only if it takes this answer.
fresh_for : (j next : Judged) (f : Finding) (why : Option Refusal) → judged_for j f why ≡ Some next → ((why ≡ None) × (j.fresh ++ f ∷ [] ≡ next.fresh)) ⊎ (j.fresh ≡ next.fresh)
fresh_for j next f None h =
    let is : record j { findings = j.findings ++ f ∷ []; fresh = j.fresh ++ f ∷ [] } ≡ next = cc h in
    inl (refl, ap (λ (x : Judged). x.fresh) is)
fresh_for j next f (Some NoIntent) h = absurd (cc h)
fresh_for j next f (Some OtherLine) h = absurd (cc h)
fresh_for j next f (Some NotClosing) h = absurd (cc h)
fresh_for j next f (Some NotAsked) h = absurd (cc h)
fresh_for j next f (Some AnsweredOtherwise) h = absurd (cc h)
fresh_for j next f (Some AnsweredSo) h = let is : j ≡ next = cc h in inr (ap (λ (x : Judged). x.fresh) is)
fresh_for j next f (Some Running) h =
    let is : record j { runs = true } ≡ next = cc h in
    inr (ap (λ (x : Judged). x.fresh) is)
fresh_for j next f (Some EndUnknown) h =
    let is : record j { findings = j.findings ++ f ∷ []; is_early = true } ≡ next = cc h in
    inr (ap (λ (x : Judged). x.fresh) is)
fresh_for j next f (Some (EndAhead ended now)) h =
    let is : record j { findings = j.findings ++ f ∷ []; is_early = true } ≡ next = cc h in
    inr (ap (λ (x : Judged). x.fresh) is)
fresh_for j next f (Some (TooYoung ended now seconds)) h =
    let is : record j { findings = j.findings ++ f ∷ []; is_early = true } ≡ next = cc h in
    inr (ap (λ (x : Judged). x.fresh) is)

-- The answer is to an attempt that is final or has a known outcome.
abbrev pub IsTold : Known → Finding → Type 0
IsTold k f = HasOutcome k.journals f.worker f.serial ⊎ IsFinalOf k.finals f.worker f.serial

told_with : (k : Known) (quiet : Option ℕ) (time : ℕ) (j next : Judged) (said : Said) → judged_with k quiet time j said ≡ Some next → ((f : Finding) → IsOneOf j.fresh f → IsTold k f) → (f : Finding) → IsOneOf next.fresh f → IsTold k f
told_with k quiet time j next said h old f one = by_test (is_text_of said.text.items (text_of_line k.lines said.line)) h
  where
    by_reason : (why : Option Refusal) → (why ≡ None → IsTold k (finding_of said time)) → judged_for j (finding_of said time) why ≡ Some next → IsTold k f
    by_reason why taken some =
        ⊎_elim
        (λ (new : (why ≡ None) × (j.fresh ++ finding_of said time ∷ [] ≡ next.fresh)).
        ⊎_elim
        (λ (was : IsOneOf j.fresh f). old f was)
        (λ (now : IsOneOf (finding_of said time ∷ []) f). ⊎_elim (λ (same : finding_of said time ≡ f). subst (IsTold k) same (taken new.0)) (λ (no : ⊥). absurd no) now)
        (of_both j.fresh (finding_of said time ∷ []) f (of_same next.fresh (j.fresh ++ finding_of said time ∷ []) f (sym new.1) one)))
        (λ (same : j.fresh ≡ next.fresh). old f (of_same next.fresh j.fresh f (sym same) one))
        (fresh_for j next (finding_of said time) why some)

    by_test : (b : Bool)
        → cond b (judged_for j (finding_of said time) (refusal_now (quiet_at quiet time) j.findings k.journals k.finals said.worker said.serial said.line said.verdict)) None ≡ Some next → IsTold k f
    by_test false none = absurd (cc none)
    by_test true some =
        by_reason (refusal_now (quiet_at quiet time) j.findings k.journals k.finals said.worker said.serial said.line said.verdict)
        (λ taken. taken_now (quiet_at quiet time) j.findings k.journals k.finals said.worker said.serial said.line said.verdict taken)
        some

-- Each answer that the command is to append is to an attempt that is final or has a known outcome.
pub told_from : (k : Known) (quiet : Option ℕ) (time : ℕ) (start j : Judged) (said : List Said) → judged_all k quiet time start said ≡ Some j → ((f : Finding) → IsOneOf start.fresh f → IsTold k f)
    → (f : Finding) → IsOneOf j.fresh f → IsTold k f
told_from k quiet time start j [] h old f one = let same : start ≡ j = cc h in subst (λ (x : Judged). (g : Finding) → IsOneOf x.fresh g → IsTold k g) same old f one
told_from k quiet time start j (s ∷ said) h old f one =
    let (next, is, more) = and_then_some (λ (x : Judged). judged_all k quiet time x said) (judged_with k quiet time start s) j h in
    told_from k quiet time next j said more (told_with k quiet time start next s is old) f one

pub fresh_of : (k : Known) (quiet : Option ℕ) (time : ℕ) (said : List Said) (j : Judged) → judged_all k quiet time (none_judged k) said ≡ Some j
    → (f : Finding) → IsOneOf j.fresh f → HasOutcome k.journals f.worker f.serial ⊎ IsFinalOf k.finals f.worker f.serial
fresh_of k quiet time said j h f one = told_from k quiet time (none_judged k) j said h (λ g no. absurd no) f one

-- ---- the answers by which lines are tried again

idle : (answer : Option Outcome) → is_idle answer ≡ true → (c : Outcome) × (answer ≡ Some c)
idle None h = absurd (cc h)
idle (Some c) h = (c, refl)

-- The attempt `id` has an outcome in this list of attempts, whose first attempt has this serial
-- number.
abbrev IsAnsweredAt : (worker serial : ℕ) → List Attempt → AttemptId → Type 0
IsAnsweredAt worker serial es id = (i : ℕ) × (e : Attempt) × (c : Outcome) × (id.worker ≡ worker) × (id.serial ≡ serial + i) × (slice_get es i ≡ Some e) × (e.answer ≡ Some c)

untouched_at : (findings : List Finding) (worker serial : ℕ) (es : List Attempt) (id : AttemptId) → IsOneOf (untouched_in findings worker serial es) id → IsAnsweredAt worker serial es id
untouched_at findings worker serial [] id one = absurd one
untouched_at findings worker serial (e ∷ es) id one = by_test (λ there. untouched_at findings worker (serial + 1) es id there) (is_idle e.answer && not (list_any (is_of worker serial) findings)) refl one
  where
    later : IsAnsweredAt worker (serial + 1) es id → IsAnsweredAt worker serial (e ∷ es) id
    later found = let (i, x, c, own, at, is, known) = found in (suc i, x, c, own, omega (arith, at), is, known)

    by_test : (IsOneOf (untouched_in findings worker (serial + 1) es) id → IsAnsweredAt worker (serial + 1) es id) → (b : Bool) → (is_idle e.answer && not (list_any (is_of worker serial) findings)) ≡ b
        → IsOneOf (cond b (record { worker = worker; serial = serial } ∷ untouched_in findings worker (serial + 1) es) (untouched_in findings worker (serial + 1) es)) id → IsAnsweredAt worker serial (e ∷ es) id
    by_test rest true it (inl is) =
        let (c, known) = idle e.answer (and_parts (is_idle e.answer) (not (list_any (is_of worker serial) findings)) it).0 in
        let at : serial ≡ id.serial = ap (λ (x : AttemptId). x.serial) is in
        (0, e, c, sym (ap (λ (x : AttemptId). x.worker) is), omega (arith, at), refl, known)
    by_test rest true it (inr there) = later (rest there)
    by_test rest false it there = later (rest there)

-- The attempt `id` has an outcome in these journals, the first of which is the journal of this
-- worker.
abbrev IsAnsweredIn : (worker : ℕ) → List (List Attempt) → AttemptId → Type 0
IsAnsweredIn worker journals id = (k : ℕ) × (es : List Attempt) × (slice_get journals k ≡ Some es) × IsAnsweredAt (worker + k) 1 es id

untouched_one : (findings : List Finding) (worker : ℕ) (journals : List (List Attempt)) (id : AttemptId) → IsOneOf (untouched_of findings worker journals) id → IsAnsweredIn worker journals id
untouched_one findings worker [] id one = absurd one
untouched_one findings worker (es ∷ journals) id one =
    ⊎_elim
    (λ (here : IsOneOf (untouched_in findings worker 1 es) id).
    let number : worker ≡ worker + 0 = omega arith in
    (0, es, refl, subst (λ (w : ℕ). IsAnsweredAt w 1 es id) number (untouched_at findings worker 1 es id here)))
    (λ (there : IsOneOf (untouched_of findings (worker + 1) journals) id).
    let (k, own, is, answered) = untouched_one findings (worker + 1) journals id there in
    let number : (worker + 1) + k ≡ worker + suc k = omega arith in
    (suc k, own, is, subst (λ (w : ℕ). IsAnsweredAt w 1 own id) number answered))
    (of_both (untouched_in findings worker 1 es) (untouched_of findings (worker + 1) journals) id one)

pub again_of : (k : Known) (time : ℕ) (f : Finding) → IsOneOf (again_at k time) f → HasOutcome k.journals f.worker f.serial
again_of k time f one =
    let (id, there, is) = of_map (λ (i : AttemptId). record { verdict = NotDone; worker = i.worker; serial = i.serial; time = time }) (untouched_of k.findings 1 k.journals) f one in
    let (n, es, journal, answered) = untouched_one k.findings 1 k.journals id there in
    let (i, e, c, own, at, attempt, outcome) = answered in
    let worker : id.worker ≡ f.worker = ap (λ (x : Finding). x.worker) is in
    let serial : id.serial ≡ f.serial = ap (λ (x : Finding). x.serial) is in
    record { k = n; i = i; es = es; e = e; c = c; worker_is = omega (arith, worker, own); serial_is = omega (arith, serial, at); journal = journal; attempt = attempt; outcome = outcome }

-- ---- attempts with an outcome

-- P holds for the serial number of each attempt that has an outcome.
abbrev pub AreAnswered : (ℕ → Type 0) → List Attempt → Type 0
AreAnswered P es = (i : ℕ) (e : Attempt) (c : Outcome) → slice_get es i ≡ Some e → e.answer ≡ Some c → P (suc i)

noted_answered : (P : ℕ → Type 0) (count : ℕ) (es next : List Attempt) (entry : Entry) → AreAnswered P es → ((s : ℕ) (c : Outcome) → entry ≡ Answered s c → P s) → noted count es entry ≡ Some next → AreAnswered P next
noted_answered P count es next (Intent serial line time) old new h = by_test ((serial == length es + 1) && is_line count line) h
  where
    by_test : (b : Bool) → cond b (Some (es ++ record { line = line; time = time; answer = None } ∷ [])) None ≡ Some next → AreAnswered P next
    by_test false none = absurd (cc none)
    by_test true some = λ i e c is known.
        let all : es ++ record { line = line; time = time; answer = None } ∷ [] ≡ next = cc some in
        ⊎_elim
        (λ was. old i e c was known)
        (λ (same : record { line = line; time = time; answer = None } ≡ e). let no : None ≡ Some c = ap (λ (x : Attempt). x.answer) same ∙ known in absurd (cc no))
        (get_pushed es (record { line = line; time = time; answer = None }) i e (ap (λ (l : List Attempt). slice_get l i) all ∙ is))
noted_answered P count es next (Answered zero answer) old new h = absurd (cc h)
noted_answered P count es next (Answered (suc k) answer) old new h = λ i e c is known.
    ⊎_elim
    (λ was. old i e c was known)
    (λ (now : (i ≡ k) × (e.answer ≡ Some answer)). subst (λ (n : ℕ). P (suc n)) (sym now.0) (new (suc k) answer refl))
    (answered_get es next k answer i e h is)

pub journal_answered : (P : ℕ → Type 0) (count : ℕ) (es es' : List Attempt) (entries : List Entry) → AreAnswered P es → ((s : ℕ) (c : Outcome) → IsOneOf entries (Answered s c) → P s) → journal_from count es entries ≡ Some es' → AreAnswered P es'
journal_answered P count es es' [] old new h = let same : es ≡ es' = cc h in subst (λ (l : List Attempt). AreAnswered P l) same old
journal_answered P count es es' (entry ∷ entries) old new h =
    let (next, is, more) = and_then_some (λ (x : List Attempt). journal_from count x entries) (noted count es entry) es' h in
    journal_answered P count next es' entries
    (noted_answered P count es next entry old (λ s c same. new s c (inl same)) is)
    (λ s c one. new s c (inr one))
    more

pub attempts_answered : (P : ℕ → Type 0) (count : ℕ) (texts : List (List ℕ)) (es : List Attempt) → attempts_in count texts ≡ Some es
    → ((t : List ℕ) (s : ℕ) (c : Outcome) → IsOneOf texts t → IsOneOf (entries_of (append_in t)) (Answered s c) → P s) → AreAnswered P es
attempts_answered P count texts es h says =
    let (entries, are, is) = and_then_some (λ (x : List Entry). journal_of count x) (entries_in texts) es h in
    journal_answered P count [] es entries
    (λ i e c there known. absurd (cc there))
    (λ s c one. let (t, in_texts, said) = text_says entries texts are (Answered s c) one in says t s c in_texts said)
    is

-- If P holds for the attempts with an outcome in each journal, P holds for every attempt whose
-- outcome a journal has.
pub outcome_is : (P : (worker serial : ℕ) → Type 0) (journals : List (List Attempt)) → ((k : ℕ) (es : List Attempt) → slice_get journals k ≡ Some es → AreAnswered (P (suc k)) es)
    → (worker serial : ℕ) → HasOutcome journals worker serial → P worker serial
outcome_is P journals each worker serial has =
    let here : P (suc has.k) (suc has.i) = each has.k has.es has.journal has.i has.e has.c has.attempt has.outcome in
    subst (λ (w : ℕ). P w serial) (sym has.worker_is) (subst (λ (s : ℕ). P (suc has.k) s) (sym has.serial_is) here)

-- ---- the knowledge of a run

-- A command that has read these texts knows the run as k.
pub record KnownOf (count : ℕ) (lines : List (List ℕ)) (t : Texts) (records : Bool) (k : Known) : Type 0 where
  pub lines_are : k.lines ≡ lines
  pub finals_are : k.finals ≡ []
  pub records_are : k.records ≡ records
  pub findings_are : findings_in t.answers ≡ Some k.findings
  pub len : length k.journals ≡ length t.journals
  pub at : (i : ℕ) (es : List Attempt) → slice_get k.journals i ≡ Some es → (texts : List (List ℕ)) × (slice_get t.journals i ≡ Some texts) × (attempts_in count texts ≡ Some es)

read_so : (o : Option (List Attempt)) (es : List Attempt) → is_some o ≡ true → or_none o ≡ es → o ≡ Some es
read_so None es some is = absurd (cc some)
read_so (Some xs) es some is = ap (λ (l : List Attempt). Some l) is

known_at : (count : ℕ) (journals : List (List (List ℕ))) → are_readable count journals ≡ true → (i : ℕ) (es : List Attempt) → slice_get (journals_in count journals) i ≡ Some es
    → (texts : List (List ℕ)) × (slice_get journals i ≡ Some texts) × (attempts_in count texts ≡ Some es)
known_at count journals all i es is =
    let (texts, there, same) = get_map (λ (x : List (List ℕ)). or_none (attempts_in count x)) journals i es is in
    (texts, there, read_so (attempts_in count texts) es (get_all (λ (x : List (List ℕ)). is_some (attempts_in count x)) journals i texts all there) same)

abbrev known_with : (lines : List (List ℕ)) → Texts → (records : Bool) → List (List Attempt) → List Finding → Known
known_with lines t records journals findings = record { lines = lines; findings = findings; journals = journals; alive = t.alive; finals = []; records = records }

pub known_of : (count : ℕ) (lines : List (List ℕ)) (t : Texts) (records : Bool) (k : Known) → known_in count lines t records ≡ Some k → KnownOf count lines t records k
known_of count lines t records k h = by_test (are_readable count t.journals) refl h
  where
    by_place : are_readable count t.journals ≡ true → (fs : List Finding) → findings_in t.answers ≡ Some fs → (b : Bool) → cond b (Some (known_with lines t records (journals_in count t.journals) fs)) None ≡ Some k
        → KnownOf count lines t records k
    by_place all fs are false none = absurd (cc none)
    by_place all fs are true is =
        let same : known_with lines t records (journals_in count t.journals) fs ≡ k = cc is in
        subst (λ (x : Known). KnownOf count lines t records x) same (record {
          lines_are = refl;
          finals_are = refl;
          records_are = refl;
          findings_are = are;
          len = map_length (λ (x : List (List ℕ)). or_none (attempts_in count x)) t.journals;
          at = known_at count t.journals all;
        })

    by_findings : are_readable count t.journals ≡ true → (o : Option (List Finding)) → findings_in t.answers ≡ o → known_by lines t records (journals_in count t.journals) o ≡ Some k → KnownOf count lines t records k
    by_findings all None are none = absurd (cc none)
    by_findings all (Some fs) are some = by_place all fs are (are_in_place (journals_in count t.journals) [] fs) some

    by_test : (b : Bool) → are_readable count t.journals ≡ b → cond b (known_by lines t records (journals_in count t.journals) (findings_in t.answers)) None ≡ Some k → KnownOf count lines t records k
    by_test false isnt none = absurd (cc none)
    by_test true all some = by_findings all (findings_in t.answers) refl some

-- ---- pending attempts

-- The attempt is in the journal of its worker, which is one of these workers, and has a line there.
pub record IsPendingOf (workers : List ℕ) (journals : List (List Attempt)) (i : AttemptId) : Type 0 where
  pub own : IsOneOf workers i.worker
  pub es : List Attempt
  pub journal : slice_get journals (i.worker - 1) ≡ Some es
  pub line : ℕ
  pub line_is : line_of (map (λ (a : Attempt). a.line) es) i.serial ≡ Some line
  pub counted : 1 ≤ i.serial

pending_one : (workers : List ℕ) (w : ℕ) (journals : List (List Attempt)) (i : AttemptId) → IsOneOf (pending_in w (get_or journals (w - 1) [])) i → IsPendingOf (w ∷ workers) journals i
pending_one workers w journals i one =
    let (p, there, is) = of_map (λ (q : ℕ × ℕ). record { worker = w; serial = q.0 }) (pending_from 1 (get_or journals (w - 1) [])) i one in
    let own : w ≡ i.worker = ap (λ (x : AttemptId). x.worker) is in
    let at : p.0 ≡ i.serial = ap (λ (x : AttemptId). x.serial) is in
    ⊎_elim
    (λ (found : (es : List Attempt) × (slice_get journals (w - 1) ≡ Some es) × (get_or journals (w - 1) [] ≡ es)).
    let (es, journal, same) = found in
    let line : line_of (map (λ (a : Attempt). a.line) es) p.0 ≡ Some p.1 = pending_lines es p.0 p.1 (subst (λ (l : List Attempt). IsOneOf (pending_from 1 l) p) same there) in
    let line_is : line_of (map (λ (a : Attempt). a.line) es) i.serial ≡ Some p.1 = ap (line_of (map (λ (a : Attempt). a.line) es)) (sym at) ∙ line in
    record {
      own = inl own;
      es = es;
      journal = ap (λ (n : ℕ). slice_get journals (n - 1)) (sym own) ∙ journal;
      line = p.1;
      line_is = line_is;
      counted = numbered (map (λ (a : Attempt). a.line) es) i.serial p.1 line_is;
    })
    (λ (no : get_or journals (w - 1) [] ≡ []).
    let none : IsOneOf (pending_from 1 []) p = subst (λ (l : List Attempt). IsOneOf (pending_from 1 l) p) no there in
    absurd none)
    (some_or_none journals (w - 1))

pub pending_member : (workers : List ℕ) (journals : List (List Attempt)) (i : AttemptId) → IsOneOf (pending_of workers journals) i → IsPendingOf workers journals i
pending_member [] journals i one = absurd one
pending_member (w ∷ workers) journals i one =
    ⊎_elim
    (λ here. pending_one workers w journals i here)
    (λ there.
    let p = pending_member workers journals i there in
    record { own = inr p.own; es = p.es; journal = p.journal; line = p.line; line_is = p.line_is; counted = p.counted })
    (of_both (pending_in w (get_or journals (w - 1) [])) (pending_of workers journals) i one)

-- ---- attempts in doubt

doubted_answered : (P : ℕ → Type 0) (es : List Attempt) (serial time : ℕ) (o : Option Attempt) → 1 ≤ serial → AreAnswered P es → P serial → AreAnswered P (doubted es serial time o)
doubted_answered P es serial time None some old new = old
doubted_answered P es serial time (Some attempt) some old new = λ i e c is known.
    ⊎_elim
    (λ was. old i e c was known)
    (λ (now : (i ≡ serial - 1) × (record attempt { answer = Some (Doubt time) } ≡ e)).
    let same : serial ≡ suc i = omega (arith, now.0, some) in
    subst P same new)
    (set_cases es (serial - 1) (record attempt { answer = Some (Doubt time) }) i e is)

doubt_of : (P : ℕ → Type 0) (js : List (List Attempt)) (i : AttemptId) (time : ℕ) (o : Option (List Attempt)) (j : ℕ) (es' : List Attempt) → 1 ≤ i.serial → slice_get js (i.worker - 1) ≡ o
    → slice_get (doubted_of js i time o) j ≡ Some es' → (es : List Attempt) × (slice_get js j ≡ Some es) × (AreAnswered P es → (j ≡ i.worker - 1 → P i.serial) → AreAnswered P es')
doubt_of P js i time None j es' some was is = (es', is, λ old new. old)
doubt_of P js i time (Some es) j es' some was is =
    ⊎_elim
    (λ (there : slice_get js j ≡ Some es'). (es', there, λ old new. old))
    (λ (now : (j ≡ i.worker - 1) × (doubted es i.serial time (slice_get es (i.serial - 1)) ≡ es')).
    (es, ap (slice_get js) now.0 ∙ was, λ old new. subst (λ (l : List Attempt). AreAnswered P l) now.1 (doubted_answered P es i.serial time (slice_get es (i.serial - 1)) some old (new now.0))))
    (set_cases js (i.worker - 1) (doubted es i.serial time (slice_get es (i.serial - 1))) j es' is)

-- After a doubt about an attempt was recorded, a journal has no new outcome except that of this
-- attempt.
pub with_doubt_of : (P : ℕ → Type 0) (k : Known) (i : AttemptId) (time : ℕ) (j : ℕ) (es' : List Attempt) → 1 ≤ i.serial → slice_get (with_doubt k i time).journals j ≡ Some es'
    → (es : List Attempt) × (slice_get k.journals j ≡ Some es) × (AreAnswered P es → (j ≡ i.worker - 1 → P i.serial) → AreAnswered P es')
with_doubt_of P k i time j es' some is = doubt_of P k.journals i time (slice_get k.journals (i.worker - 1)) j es' some refl is
