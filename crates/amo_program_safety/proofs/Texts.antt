-- Lemmas on the texts of logs.
use Rattle.std.proofs.Common.{◌≡◌, ◌⊎◌, inl, inr, ⊎_elim, ℕ, zero, suc, ◌+◌, Bool, true, false, cond, ◌&&◌, ◌||◌, List, [], ◌∷◌, ◌++◌, length, map, take, Option, Some, None, refl, sym, ap, subst, ◌∙◌, arith, append_assoc, append-nil}
use Rattle.std.specs.Prelude.{slice_get, slice_set, ◌==◌, not, is_none, option_map}
use Rattle.std.proofs.lemmas.Bool.{and_parts, eq-eqb}
use Rattle.std.proofs.lemmas.List.{map_push}
use Rattle.std.proofs.lemmas.List.Folds.{list_any-append}
use Rattle.amo_safety_by_journals.specs.Model.{IsOneOf, line_of}
use Rattle.amo_run_log.specs.declared.append.Append.{Append}
use Rattle.amo_run_log.specs.declared.clearance.AttemptId.{AttemptId}
use Rattle.amo_run_log.specs.declared.entry.Entry.{Entry}
use Rattle.amo_run_log.specs.declared.entry.Entry.TheVariants.{Intent, Answer as Answered}
use Rattle.amo_run_log.specs.declared.entry.Outcome.{Outcome}
use Rattle.amo_run_log.specs.declared.entry.Outcome.TheVariants.{Done, Doubt, Unbegun, Untouched}
use Rattle.amo_run_log.specs.declared.finding.Finding.{Finding}
use Rattle.amo_run_log.specs.declared.finding.Resolution.{Resolution}
use Rattle.amo_run_log.specs.declared.finding.Resolution.TheVariants.{Done as WasDone, NotDone}
use Rattle.amo_run_log.specs.declared.journal.Attempt.{Attempt}
use Rattle.amo_run_log.specs.Clearance.{any_stands, stands_against, stands_in}
use Rattle.amo_run_log.specs.Entries.{append_in, appends_in, entries_in, entries_of_append, entries_of_appends, text_of_append, FitsAppend}
use Rattle.amo_run_log.specs.Findings.{finding_in, findings_in, text_of_finding, FitsFinding, is_not_done, is_of, is_undone}
use Rattle.amo_run_log.specs.Journals.{answered, attempts_in, is_line, journal_from, journal_of, noted, pending_from}
use Rattle.amo_run_log.specs.Open.{IsAnswer, opens, reopens}
use Rattle.amo_run_log.specs.ReadLogs.{findings_after, journals_after, journals_noting}
use Rattle.amo_run_log.proofs.AppendTexts.{append_reads, map_some}
use Rattle.amo_run_log.proofs.FindingTexts.{finding_reads}
use Rattle.amo_run_log.proofs.OpenLaws.{is_equal, head, tail}
use Rattle.amo_run_log.proofs.Words.{and_then_some}
use Rattle.amo_program_safety.specs.Texts.{entries_of, lines_of, lines_in, append_of}

-- ---- lists

-- An element of two joined lists is an element of the first or of the second.
pub of_both : {A : Type 0} (xs ys : List A) (x : A) → IsOneOf (xs ++ ys) x → IsOneOf xs x ⊎ IsOneOf ys x
of_both [] ys x one = inr one
of_both (z ∷ xs) ys x (inl is) = inl (inl is)
of_both (z ∷ xs) ys x (inr one) = ⊎_elim (λ a. inl (inr a)) (λ b. inr b) (of_both xs ys x one)

pub of_left : {A : Type 0} (xs ys : List A) (x : A) → IsOneOf xs x → IsOneOf (xs ++ ys) x
of_left [] ys x one = absurd one
of_left (z ∷ xs) ys x (inl is) = inl is
of_left (z ∷ xs) ys x (inr one) = inr (of_left xs ys x one)

pub of_right : {A : Type 0} (xs ys : List A) (x : A) → IsOneOf ys x → IsOneOf (xs ++ ys) x
of_right [] ys x one = one
of_right (z ∷ xs) ys x one = inr (of_right xs ys x one)

pub taken_of : {A : Type 0} (k : ℕ) (xs : List A) (x : A) → IsOneOf (take k xs) x → IsOneOf xs x
taken_of zero xs x one = absurd one
taken_of (suc k) [] x one = one
taken_of (suc k) (z ∷ xs) x (inl is) = inl is
taken_of (suc k) (z ∷ xs) x (inr one) = inr (taken_of k xs x one)

-- An element of a list is an element of every equal list.
pub of_same : {A : Type 0} (xs ys : List A) (x : A) → xs ≡ ys → IsOneOf xs x → IsOneOf ys x
of_same {A = A} xs ys x same one = subst (λ (zs : List A). IsOneOf zs x) same one

get_longer : (xs ys : List ℕ) (i x : ℕ) → slice_get xs i ≡ Some x → slice_get (xs ++ ys) i ≡ Some x
get_longer [] ys i x is = absurd (cc is)
get_longer (y ∷ xs) ys zero x is = is
get_longer (y ∷ xs) ys (suc i) x is = get_longer xs ys i x is

get_new : (xs : List ℕ) (y : ℕ) → slice_get (xs ++ y ∷ []) (length xs) ≡ Some y
get_new [] y = refl
get_new (x ∷ xs) y = get_new xs y

pub line_of_both : (xs ys : List ℕ) (serial line : ℕ) → line_of xs serial ≡ Some line → line_of (xs ++ ys) serial ≡ Some line
line_of_both xs ys zero line is = absurd (cc is)
line_of_both xs ys (suc i) line is = get_longer xs ys i line is

pub line_of_last : (xs : List ℕ) (x : ℕ) → line_of (xs ++ x ∷ []) (suc (length xs)) ≡ Some x
line_of_last xs x = get_new xs x

-- No line comes after the last line of a list.
pub line_behind : (xs : List ℕ) (l : ℕ) → line_of xs (suc (length xs)) ≡ Some l → ⊥
line_behind [] l e = cc e
line_behind (x ∷ xs) l e = line_behind xs l e

-- ---- the lines of intents

pub lines_of_both : (xs ys : List Entry) → lines_of (xs ++ ys) ≡ lines_of xs ++ lines_of ys
lines_of_both [] ys = refl
lines_of_both (Intent serial line time ∷ xs) ys = ap (λ l. line ∷ l) (lines_of_both xs ys)
lines_of_both (Answered serial outcome ∷ xs) ys = lines_of_both xs ys

pub lines_in_both : (xs ys : List (List ℕ)) → lines_in (xs ++ ys) ≡ lines_in xs ++ lines_in ys
lines_in_both [] ys = refl
lines_in_both (t ∷ xs) ys =
    ap (λ l. lines_of (entries_of (append_in t)) ++ l) (lines_in_both xs ys)
    ∙ sym (append_assoc (lines_of (entries_of (append_in t))) (lines_in xs) (lines_in ys))

-- The entries of some texts are the entries of the first text, followed by the entries of the other
-- texts.
pub entries_first : (text : List ℕ) (texts : List (List ℕ)) (entries : List Entry) → entries_in (text ∷ texts) ≡ Some entries
    → (a : Append) × (append_in text ≡ Some a) × (rest : List Entry) × (entries_in texts ≡ Some rest) × (entries_of_append a ++ rest ≡ entries)
entries_first text texts entries h =
    let (appends, are, flat) = map_some entries_of_appends (appends_in (text ∷ texts)) entries h in
    let (a, is, more) = and_then_some (λ (x : Append). option_map (λ xs. x ∷ xs) (appends_in texts)) (append_in text) appends are in
    let (others, read, all) = map_some (λ xs. a ∷ xs) (appends_in texts) appends more in
    (a, is, entries_of_appends others, ap (option_map entries_of_appends) read, ap entries_of_appends all ∙ flat)

pub lines_of_entries : (texts : List (List ℕ)) (entries : List Entry) → entries_in texts ≡ Some entries → lines_of entries ≡ lines_in texts
lines_of_entries [] entries h = let none : [] ≡ entries = cc in ap lines_of (sym none)
lines_of_entries (text ∷ texts) entries h =
    let (a, is, rest, others, all) = entries_first text texts entries h in
    ap lines_of (sym all)
    ∙ lines_of_both (entries_of_append a) rest
    ∙ ap (λ l. lines_of (entries_of_append a) ++ l) (lines_of_entries texts rest others)
    ∙ ap (λ o. lines_of (entries_of o) ++ lines_in texts) (sym is)

-- Each entry of some texts is an entry of one of these texts.
pub text_says : (entries : List Entry) (texts : List (List ℕ)) → entries_in texts ≡ Some entries → (x : Entry) → IsOneOf entries x → (t : List ℕ) × IsOneOf texts t × IsOneOf (entries_of (append_in t)) x
text_says entries [] h x one = let none : [] ≡ entries = cc in absurd (of_same entries [] x (sym none) one)
text_says entries (text ∷ texts) h x one =
    let (a, is, rest, others, all) = entries_first text texts entries h in
    ⊎_elim
    (λ (here : IsOneOf (entries_of_append a) x). (text, inl refl, of_same (entries_of_append a) (entries_of (append_in text)) x (ap entries_of (sym is)) here))
    (λ (there : IsOneOf rest x). let (t, in_rest, says) = text_says rest texts others x there in (t, inr in_rest, says))
    (of_both (entries_of_append a) rest x (of_same entries (entries_of_append a ++ rest) x (sym all) one))

-- ---- appended entries

pub put_says : (owed : Option Entry) (entry : Entry) → FitsAppend (append_of owed entry) → append_in (text_of_append (append_of owed entry)) ≡ Some (append_of owed entry)
put_says owed entry fits = append_reads (append_of owed entry) fits

lines_put : (owed : Option Entry) (entry : Entry) → FitsAppend (append_of owed entry) → lines_in (text_of_append (append_of owed entry) ∷ []) ≡ lines_of (entries_of_append (append_of owed entry)) ++ []
lines_put owed entry fits = ap (λ o. lines_of (entries_of o) ++ []) (put_says owed entry fits)

pub put_lines : (owed : Option Entry) (serial line time : ℕ) → ((o : Entry) → owed ≡ Some o → IsAnswer o) → FitsAppend (append_of owed (Intent serial line time))
    → lines_in (text_of_append (append_of owed (Intent serial line time)) ∷ []) ≡ line ∷ []
put_lines None serial line time answer fits = lines_put None (Intent serial line time) fits
put_lines (Some (Intent s l t)) serial line time answer fits = absurd (answer (Intent s l t) refl)
put_lines (Some (Answered s outcome)) serial line time answer fits = lines_put (Some (Answered s outcome)) (Intent serial line time) fits

pub put_no_lines : (owed : Option Entry) (entry : Entry) → ((o : Entry) → owed ≡ Some o → IsAnswer o) → IsAnswer entry → FitsAppend (append_of owed entry)
    → lines_in (text_of_append (append_of owed entry) ∷ []) ≡ []
put_no_lines owed (Intent s l t) answer is fits = absurd is
put_no_lines None (Answered s outcome) answer is fits = lines_put None (Answered s outcome) fits
put_no_lines (Some (Intent r l t)) (Answered s outcome) answer is fits = absurd (answer (Intent r l t) refl)
put_no_lines (Some (Answered r other)) (Answered s outcome) answer is fits = lines_put (Some (Answered r other)) (Answered s outcome) fits

pub finding_says : (f : Finding) → FitsFinding f → finding_in (text_of_finding f) ≡ Some f
finding_says f fits = finding_reads f fits

-- ---- attempts

-- An answer changes no line of the attempts.
answered_lines : (es next : List Attempt) (i : ℕ) (a : Outcome) → answered es i a ≡ Some next → map (λ (e : Attempt). e.line) next ≡ map (λ (e : Attempt). e.line) es
answered_lines [] next i a h = absurd (cc h)
answered_lines (e ∷ es) next zero a h =
    let (none, is) = head e es next a e.answer h in
    ap (map (λ (x : Attempt). x.line)) (sym is)
answered_lines (e ∷ es) next (suc i) a h =
    let (rest, more, is) = tail e (answered es i a) next h in
    ap (map (λ (x : Attempt). x.line)) (sym is) ∙ ap (λ l. e.line ∷ l) (answered_lines es rest i a more)

noted_lines : (count : ℕ) (es next : List Attempt) (entry : Entry) → noted count es entry ≡ Some next → map (λ (a : Attempt). a.line) next ≡ map (λ (a : Attempt). a.line) es ++ lines_of (entry ∷ [])
noted_lines count es next (Intent serial line time) h = by_test ((serial == length es + 1) && is_line count line) h
  where
    by_test : (b : Bool) → cond b (Some (es ++ record { line = line; time = time; answer = None } ∷ [])) None ≡ Some next → map (λ (a : Attempt). a.line) next ≡ map (λ (a : Attempt). a.line) es ++ line ∷ []
    by_test true some =
        let is : es ++ record { line = line; time = time; answer = None } ∷ [] ≡ next = cc in
        ap (map (λ (a : Attempt). a.line)) (sym is) ∙ map_push (λ (a : Attempt). a.line) es (record { line = line; time = time; answer = None })
    by_test false none = absurd (cc none)
noted_lines count es next (Answered zero answer) h = absurd (cc h)
noted_lines count es next (Answered (suc i) answer) h = answered_lines es next i answer h ∙ sym (append-nil (map (λ (a : Attempt). a.line) es))

pub journal_lines : (count : ℕ) (es es' : List Attempt) (entries : List Entry) → journal_from count es entries ≡ Some es' → map (λ (a : Attempt). a.line) es' ≡ map (λ (a : Attempt). a.line) es ++ lines_of entries
journal_lines count es es' [] h = let same : es ≡ es' = cc in ap (map (λ (a : Attempt). a.line)) (sym same) ∙ sym (append-nil (map (λ (a : Attempt). a.line) es))
journal_lines count es es' (entry ∷ entries) h =
    let (next, is, more) = and_then_some (λ (x : List Attempt). journal_from count x entries) (noted count es entry) es' h in
    journal_lines count next es' entries more
    ∙ ap (λ l. l ++ lines_of entries) (noted_lines count es next entry is)
    ∙ append_assoc (map (λ (a : Attempt). a.line) es) (lines_of (entry ∷ [])) (lines_of entries)
    ∙ ap (λ l. map (λ (a : Attempt). a.line) es ++ l) (sym (lines_of_both (entry ∷ []) entries))

pub attempts_lines : (count : ℕ) (texts : List (List ℕ)) (es : List Attempt) → attempts_in count texts ≡ Some es → map (λ (a : Attempt). a.line) es ≡ lines_in texts
attempts_lines count texts es h =
    let (entries, are, is) = and_then_some (λ (x : List Entry). journal_of count x) (entries_in texts) es h in
    journal_lines count [] es entries is ∙ lines_of_entries texts entries are

get_line : (es : List Attempt) (i line : ℕ) → slice_get (map (λ (a : Attempt). a.line) es) i ≡ Some line → (e : Attempt) × (slice_get es i ≡ Some e) × (e.line ≡ line)
get_line [] i line h = absurd (cc h)
get_line (e ∷ es) zero line h = (e, refl, cc)
get_line (e ∷ es) (suc i) line h = get_line es i line h

pub attempt_at : (es : List Attempt) (serial line : ℕ) → line_of (map (λ (a : Attempt). a.line) es) serial ≡ Some line → (i : ℕ) × (e : Attempt) × (serial ≡ suc i) × (slice_get es i ≡ Some e) × (e.line ≡ line)
attempt_at es zero line h = absurd (cc h)
attempt_at es (suc i) line h = let (e, is, at) = get_line es i line h in (i, e, refl, is, at)

-- The pending attempts are those without an answer. The first attempt of the list has the serial
-- number `start`.

abbrev StandsAt : ℕ → List Attempt → ℕ → ℕ → Type 0
StandsAt start es s l = (i : ℕ) × (s ≡ start + i) × (slice_get (map (λ (a : Attempt). a.line) es) i ≡ Some l)

pending_at : (start : ℕ) (es : List Attempt) (s l : ℕ) → IsOneOf (pending_from start es) (s, l) → StandsAt start es s l
pending_at start [] s l one = absurd one
pending_at start (e ∷ es) s l one = by_test (λ rest. pending_at (start + 1) es s l rest) (is_none e.answer) one
  where
    later : StandsAt (start + 1) es s l → StandsAt start (e ∷ es) s l
    later found = let (i, at, is) = found in (suc i, omega (arith, at), is)

    by_test : (IsOneOf (pending_from (start + 1) es) (s, l) → StandsAt (start + 1) es s l) → (b : Bool) → IsOneOf (cond b ((start, e.line) ∷ pending_from (start + 1) es) (pending_from (start + 1) es)) (s, l)
        → StandsAt start (e ∷ es) s l
    by_test rest true (inl is) = let serial : start ≡ s = ap (λ (p : ℕ × ℕ). p.0) is in let line : e.line ≡ l = ap (λ (p : ℕ × ℕ). p.1) is in (0, omega (arith, serial), ap (λ (x : ℕ). Some x) line)
    by_test rest true (inr one) = later (rest one)
    by_test rest false one = later (rest one)

pub pending_lines : (es : List Attempt) (s l : ℕ) → IsOneOf (pending_from 1 es) (s, l) → line_of (map (λ (a : Attempt). a.line) es) s ≡ Some l
pending_lines es s l one =
    let (i, at, is) = pending_at 1 es s l one in
    let same : s ≡ suc i = omega (arith, at) in
    ap (line_of (map (λ (a : Attempt). a.line) es)) same ∙ is

-- ---- attempts that were not begun

-- P holds for the serial number of each attempt whose answer opens its line.
abbrev pub AreOpened : (ℕ → Type 0) → List Attempt → Type 0
AreOpened P es = (i : ℕ) (e : Attempt) → slice_get es i ≡ Some e → reopens e.answer ≡ true → P (suc i)

pub get_pushed : {A : Type 0} (xs : List A) (y : A) (i : ℕ) (x : A) → slice_get (xs ++ y ∷ []) i ≡ Some x → (slice_get xs i ≡ Some x) ⊎ (y ≡ x)
get_pushed [] y zero x is = inr cc
get_pushed [] y (suc i) x is = absurd (cc is)
get_pushed (z ∷ xs) y zero x is = inl is
get_pushed (z ∷ xs) y (suc i) x is = get_pushed xs y i x is

pub answered_get : (es next : List Attempt) (k : ℕ) (a : Outcome) (i : ℕ) (x : Attempt) → answered es k a ≡ Some next → slice_get next i ≡ Some x → (slice_get es i ≡ Some x) ⊎ ((i ≡ k) × (x.answer ≡ Some a))
answered_get [] next k a i x h is = absurd (cc h)
answered_get (e ∷ es) next zero a zero x h is =
    let (none, all) = head e es next a e.answer h in
    let here : Some (record e { answer = Some a }) ≡ Some x = ap (λ (l : List Attempt). slice_get l 0) all ∙ is in
    let same : record e { answer = Some a } ≡ x = cc in
    inr (refl, sym (ap (λ (y : Attempt). y.answer) same))
answered_get (e ∷ es) next zero a (suc i) x h is =
    let (none, all) = head e es next a e.answer h in
    inl (ap (λ (l : List Attempt). slice_get l (suc i)) all ∙ is)
answered_get (e ∷ es) next (suc k) a zero x h is =
    let (rest, more, all) = tail e (answered es k a) next h in
    inl (ap (λ (l : List Attempt). slice_get l 0) all ∙ is)
answered_get (e ∷ es) next (suc k) a (suc i) x h is =
    let (rest, more, all) = tail e (answered es k a) next h in
    ⊎_elim (λ old. inl old) (λ new. inr (ap suc new.0, new.1)) (answered_get es rest k a i x more (ap (λ (l : List Attempt). slice_get l (suc i)) all ∙ is))

unbegun : (a : Outcome) → opens a ≡ true → a ≡ Unbegun
unbegun (Done code time) h = absurd (cc h)
unbegun (Doubt time) h = absurd (cc h)
unbegun Unbegun h = refl
unbegun (Untouched code time) h = absurd (cc h)

noted_opened : (P : ℕ → Type 0) (count : ℕ) (es next : List Attempt) (entry : Entry) → AreOpened P es → ((s : ℕ) → entry ≡ Answered s Unbegun → P s) → noted count es entry ≡ Some next → AreOpened P next
noted_opened P count es next (Intent serial line time) old new h = by_test ((serial == length es + 1) && is_line count line) h
  where
    by_test : (b : Bool) → cond b (Some (es ++ record { line = line; time = time; answer = None } ∷ [])) None ≡ Some next → AreOpened P next
    by_test false none = absurd (cc none)
    by_test true some = λ i e is opened.
        let all : es ++ record { line = line; time = time; answer = None } ∷ [] ≡ next = cc some in
        ⊎_elim
        (λ was. old i e was opened)
        (λ (same : record { line = line; time = time; answer = None } ≡ e). let no : false ≡ true = ap (λ (x : Attempt). reopens x.answer) same ∙ opened in absurd (cc no))
        (get_pushed es (record { line = line; time = time; answer = None }) i e (ap (λ (l : List Attempt). slice_get l i) all ∙ is))
noted_opened P count es next (Answered zero answer) old new h = absurd (cc h)
noted_opened P count es next (Answered (suc k) answer) old new h = λ i e is opened.
    ⊎_elim
    (λ was. old i e was opened)
    (λ (now : (i ≡ k) × (e.answer ≡ Some answer)).
    let opening : opens answer ≡ true = sym (ap reopens now.1) ∙ opened in
    subst (λ (n : ℕ). P (suc n)) (sym now.0) (new (suc k) (ap (λ (a : Outcome). Answered (suc k) a) (unbegun answer opening))))
    (answered_get es next k answer i e h is)

pub journal_opened : (P : ℕ → Type 0) (count : ℕ) (es es' : List Attempt) (entries : List Entry) → AreOpened P es → ((s : ℕ) → IsOneOf entries (Answered s Unbegun) → P s) → journal_from count es entries ≡ Some es' → AreOpened P es'
journal_opened P count es es' [] old new h = let same : es ≡ es' = cc h in subst (λ (l : List Attempt). AreOpened P l) same old
journal_opened P count es es' (entry ∷ entries) old new h =
    let (next, is, more) = and_then_some (λ (x : List Attempt). journal_from count x entries) (noted count es entry) es' h in
    journal_opened P count next es' entries
    (noted_opened P count es next entry old (λ s same. new s (inl same)) is)
    (λ s one. new s (inr one))
    more

-- ---- attempts that stand against a line

neither : (a b : Bool) → (a || b) ≡ false → (a ≡ false) × (b ≡ false)
neither true b h = absurd (cc h)
neither false b h = (refl, h)

pub stands_at : (findings : List Finding) (own : AttemptId) (line w : ℕ) (journals : List (List Attempt)) (k : ℕ) (es : List Attempt) → stands_in findings own line w journals ≡ false → slice_get journals k ≡ Some es
    → any_stands findings own line (w + k) 1 es ≡ false
stands_at findings own line w [] k es h is = absurd (cc is)
stands_at findings own line w (js ∷ journals) zero es h is =
    let (here, rest) = neither (any_stands findings own line w 1 js) (stands_in findings own line (w + 1) journals) h in
    let same : js ≡ es = cc is in
    let number : w ≡ w + 0 = omega arith in
    ap (λ x. any_stands findings own line x 1 es) (sym number) ∙ ap (λ (l : List Attempt). any_stands findings own line w 1 l) (sym same) ∙ here
stands_at findings own line w (js ∷ journals) (suc k) es h is =
    let (here, rest) = neither (any_stands findings own line w 1 js) (stands_in findings own line (w + 1) journals) h in
    let number : w + suc k ≡ (w + 1) + k = omega arith in
    ap (λ x. any_stands findings own line x 1 es) number ∙ stands_at findings own line (w + 1) journals k es rest is

-- The attempt doesn't stand against the line: it is the own attempt, its answer opens its line, or
-- a finding says that it was not done.
abbrev IsExcused : List Finding → AttemptId → ℕ → ℕ → Attempt → Type 0
IsExcused findings own worker serial e = ((worker ≡ own.worker) × (serial ≡ own.serial)) ⊎ ((reopens e.answer ≡ true) ⊎ (is_undone findings worker serial ≡ true))

clear_from : (findings : List Finding) (own : AttemptId) (line worker serial : ℕ) (es : List Attempt) → any_stands findings own line worker serial es ≡ false → (i : ℕ) (e : Attempt) → slice_get es i ≡ Some e → e.line ≡ line
    → IsExcused findings own worker (serial + i) e
clear_from findings own line worker serial [] h i e is at = absurd (cc is)
clear_from findings own line worker serial (x ∷ es) h zero e is at =
    let (here, rest) = neither (stands_against findings own line worker serial x) (any_stands findings own line worker (serial + 1) es) h in
    let same : x ≡ e = cc is in
    let number : serial ≡ serial + 0 = omega arith in
    subst (λ (n : ℕ). IsExcused findings own worker n e) number
    (by_tests (e.line == line) (reopens e.answer) (is_undone findings worker serial) (worker == own.worker) (serial == own.serial)
    (eq-eqb e.line line at) (is_equal worker own.worker) (is_equal serial own.serial)
    (ap (λ (y : Attempt). stands_against findings own line worker serial y) (sym same) ∙ here))
  where
    by_tests : {P Q : Type 0} (l r u p q : Bool) → l ≡ true → (p ≡ true → P) → (q ≡ true → Q) → ((l && not (r || u)) && not (p && q)) ≡ false → (P × Q) ⊎ ((r ≡ true) ⊎ (u ≡ true))
    by_tests false r u p q at first second h = absurd (cc at)
    by_tests true true u p q at first second h = inr (inl refl)
    by_tests true false true p q at first second h = inr (inr refl)
    by_tests true false false true true at first second h = inl (first refl, second refl)
    by_tests true false false true false at first second h = absurd (cc h)
    by_tests true false false false q at first second h = absurd (cc h)
clear_from findings own line worker serial (x ∷ es) h (suc i) e is at =
    let (here, rest) = neither (stands_against findings own line worker serial x) (any_stands findings own line worker (serial + 1) es) h in
    let number : (serial + 1) + i ≡ serial + suc i = omega arith in
    subst (λ (n : ℕ). IsExcused findings own worker n e) number (clear_from findings own line worker (serial + 1) es rest i e is at)

pub clear_at : (findings : List Finding) (own : AttemptId) (line worker : ℕ) (es : List Attempt) → any_stands findings own line worker 1 es ≡ false → (i : ℕ) (e : Attempt) → slice_get es i ≡ Some e → e.line ≡ line
    → ((worker ≡ own.worker) × (suc i ≡ own.serial)) ⊎ ((reopens e.answer ≡ true) ⊎ (is_undone findings worker (suc i) ≡ true))
clear_at findings own line worker es h i e is at =
    let number : 1 + i ≡ suc i = omega arith in
    subst (λ (n : ℕ). IsExcused findings own worker n e) number (clear_from findings own line worker 1 es h i e is at)

-- ---- findings

-- One of these texts has a finding that the attempt was not done.
abbrev pub SaysUndone : List (List ℕ) → ℕ → ℕ → Type 0
SaysUndone texts worker serial = (t : List ℕ) × IsOneOf texts t × (f : Finding) × (finding_in t ≡ Some f) × (f.verdict ≡ NotDone) × (f.worker ≡ worker) × (f.serial ≡ serial)

not_done : (v : Resolution) → is_not_done v ≡ true → v ≡ NotDone
not_done WasDone h = absurd (cc h)
not_done NotDone h = refl

says_undone : (texts : List (List ℕ)) (more : List Finding) → findings_in texts ≡ Some more → (worker serial : ℕ) → is_undone more worker serial ≡ true → SaysUndone texts worker serial
says_undone [] more h worker serial undone =
    let none : [] ≡ more = cc h in
    let no : false ≡ true = ap (λ (fs : List Finding). is_undone fs worker serial) none ∙ undone in
    absurd (cc no)
says_undone (text ∷ texts) more h worker serial undone =
    let (f, is, some) = and_then_some (λ (x : Finding). option_map (λ xs. x ∷ xs) (findings_in texts)) (finding_in text) more h in
    let (rest, read, all) = map_some (λ xs. f ∷ xs) (findings_in texts) more some in
    by_test f is rest (λ there. says_undone texts rest read worker serial there)
    (is_not_done f.verdict && is_of worker serial f) refl (ap (λ (fs : List Finding). is_undone fs worker serial) all ∙ undone)
  where
    by_test : (f : Finding) → finding_in text ≡ Some f → (rest : List Finding) → (is_undone rest worker serial ≡ true → SaysUndone texts worker serial)
        → (b : Bool) → (is_not_done f.verdict && is_of worker serial f) ≡ b → (b || is_undone rest worker serial) ≡ true → SaysUndone (text ∷ texts) worker serial
    by_test f is rest later false isnt there = let (t, one, g, says, verdict, p, s) = later there in (t, inr one, g, says, verdict, p, s)
    by_test f is rest later true it there =
        let parts = and_parts (is_not_done f.verdict) (is_of worker serial f) it in
        let numbers = and_parts (f.worker == worker) (f.serial == serial) parts.1 in
        (text, inl refl, f, is, not_done f.verdict parts.0, is_equal f.worker worker numbers.0, is_equal f.serial serial numbers.1)

pub undone_after : (findings new : List Finding) (texts : List (List ℕ)) → findings_after findings texts ≡ Some new → (worker serial : ℕ) → is_undone new worker serial ≡ true
    → (is_undone findings worker serial ≡ true) ⊎ ((t : List ℕ) × IsOneOf texts t × (f : Finding) × (finding_in t ≡ Some f) × (f.verdict ≡ NotDone) × (f.worker ≡ worker) × (f.serial ≡ serial))
undone_after findings new texts h worker serial undone =
    let (more, read, all) = map_some (λ (xs : List Finding). findings ++ xs) (findings_in texts) new h in
    let either : (is_undone findings worker serial || is_undone more worker serial) ≡ true =
    sym (list_any-append (λ (f : Finding). is_not_done f.verdict && is_of worker serial f) findings more) ∙ ap (λ (fs : List Finding). is_undone fs worker serial) all ∙ undone in
    by_test (is_undone findings worker serial) (λ there. says_undone texts more read worker serial there) either
  where
    by_test : {Q : Type 0} {m : Bool} (b : Bool) → (m ≡ true → Q) → (b || m) ≡ true → (b ≡ true) ⊎ Q
    by_test true later h = inl refl
    by_test false later h = inr (later h)

-- ---- a journal that is read on

get_set : {A : Type 0} (xs : List A) (k : ℕ) (x y : A) → slice_get xs k ≡ Some x → slice_get (slice_set xs k y) k ≡ Some y
get_set [] k x y is = absurd (cc is)
get_set (z ∷ xs) zero x y is = refl
get_set (z ∷ xs) (suc k) x y is = get_set xs k x y is

get_other : {A : Type 0} (xs : List A) (k : ℕ) (y : A) (j : ℕ) → (j ≡ k → ⊥) → slice_get (slice_set xs k y) j ≡ slice_get xs j
get_other [] k y j other = refl
get_other (z ∷ xs) zero y zero other = absurd (other refl)
get_other (z ∷ xs) zero y (suc j) other = refl
get_other (z ∷ xs) (suc k) y zero other = refl
get_other (z ∷ xs) (suc k) y (suc j) other = get_other xs k y j (λ same. other (ap suc same))

length_set : {A : Type 0} (xs : List A) (k : ℕ) (x : A) → length (slice_set xs k x) ≡ length xs
length_set [] k x = refl
length_set (z ∷ xs) zero x = refl
length_set (z ∷ xs) (suc k) x = ap suc (length_set xs k x)

-- The journal of one worker goes on by the entries of these texts, and the other journals stay.
pub record ReadsOne (count : ℕ) (old : List (List Attempt)) (worker : ℕ) (texts : List (List ℕ)) (new : List (List Attempt)) : Type 0 where
  pub k : ℕ
  pub worker_is : worker ≡ suc k
  pub entries : List Entry
  pub entries_are : entries_in texts ≡ Some entries
  pub es : List Attempt
  pub es' : List Attempt
  pub was : slice_get old k ≡ Some es
  pub becomes : journal_from count es entries ≡ Some es'
  pub now : slice_get new k ≡ Some es'
  pub others : (j : ℕ) → (j ≡ k → ⊥) → slice_get new j ≡ slice_get old j
  pub len : length new ≡ length old

noting_one : (count : ℕ) (old : List (List Attempt)) (worker : ℕ) (texts : List (List ℕ)) (new : List (List Attempt)) (entries : List Entry) → entries_in texts ≡ Some entries
    → journals_noting count old worker entries ≡ Some new → ReadsOne count old worker texts new
noting_one count old zero texts new entries are h = absurd (cc h)
noting_one count old (suc k) texts new entries are h =
    let (es, was, more) = and_then_some (λ (xs : List Attempt). option_map (λ next. slice_set old k next) (journal_from count xs entries)) (slice_get old k) new h in
    let (next, becomes, all) = map_some (λ (xs : List Attempt). slice_set old k xs) (journal_from count es entries) new more in
    record {
      k = k;
      worker_is = refl;
      entries = entries;
      entries_are = are;
      es = es;
      es' = next;
      was = was;
      becomes = becomes;
      now = ap (λ (js : List (List Attempt)). slice_get js k) (sym all) ∙ get_set old k es next was;
      others = λ j other. ap (λ (js : List (List Attempt)). slice_get js j) (sym all) ∙ get_other old k next j other;
      len = ap length (sym all) ∙ length_set old k next;
    }

pub reads_one : (count : ℕ) (old : List (List Attempt)) (worker : ℕ) (texts : List (List ℕ)) (new : List (List Attempt)) → journals_after count old worker texts ≡ Some new → ReadsOne count old worker texts new
reads_one count old worker texts new h =
    let (entries, are, more) = and_then_some (λ (xs : List Entry). journals_noting count old worker xs) (entries_in texts) new h in
    noting_one count old worker texts new entries are more
