-- The index of attempts by line: what stands against a line by it, and what keeps it.
use Rattle.std.proofs.Common.{◌≡◌, ◌≢◌, inl, inr, ⊎_elim, ◌⊎◌, ℕ, zero, suc, ◌+◌, ◌-◌, ◌<◌, ◌≤◌, Bool, true, false, ◌&&◌, ◌||◌, List, [], ◌∷◌, ◌++◌, Option, Some, None, length, take, get_or, set, replicate, refl, sym, ap, subst, ◌∙◌, arith, Vec, Global, Result, Ok, Err, map, IfOk, OnErr, if◌then◌else◌}
use Rattle.std.specs.Prelude.{slice_get, slice_index_or, ◌==◌, IfNone, IfSome}
use Rattle.std.specs.List.{list_any}
use Rattle.std.proofs.lemmas.Bool.{and_parts, cases_eq}
use Rattle.std.proofs.lemmas.Bool.Decides.{nat_tests}
use Rattle.std.proofs.lemmas.List.{length-map, map-append, map-set}
use Rattle.std.proofs.lemmas.List.Folds.{list_any_more, list_any-append}
use Rattle.std.proofs.Math.Seq.{map-set_same}
use Rattle.amo_run_log.specs.declared.clearance.AttemptId.{AttemptId}
use Rattle.amo_run_log.specs.declared.entry.Entry.{Entry}
use Rattle.amo_run_log.specs.declared.entry.Entry.TheVariants.{Intent, Answer as Answered}
use Rattle.amo_run_log.specs.declared.finding.Finding.{Finding}
use Rattle.amo_run_log.specs.declared.journal.Attempt.{Attempt}
use Rattle.amo_run_log.specs.ByLine.{is_id, listed, IsFrom, IsIndex, IsListed, ListsIntent, NotesIn}
use Rattle.amo_run_log.specs.Clearance.{IsAttempt, IsBefore, IsClear, IsOpened, IsOther, IsStanding}
use Rattle.amo_run_log.specs.Findings.{is_undone}
use Rattle.amo_run_log.specs.Journals.{is_line, noted, NotesOrNot}
use Rattle.amo_run_log.specs.Open.{reopens}
use Rattle.amo_run_log.proofs.ClearLaws.{here, not_last, answered_each}
use Rattle.amo_run_log.proofs.OpenLaws.{is_equal, to_serial, intent_is}

-- an attempt of which it can't be that it isn't opened
pub opened_unless : (findings : List Finding) (worker serial : ℕ) (e : Attempt) → ((IsOpened findings worker serial e → ⊥) → ⊥) → IsOpened findings worker serial e
opened_unless findings worker serial e never = by_tests (reopens e.answer) (is_undone findings worker serial) refl refl
  where
    differ : false ≡ true → ⊥
    differ is = cc

    by_tests : (r f : Bool) → reopens e.answer ≡ r → is_undone findings worker serial ≡ f → IsOpened findings worker serial e
    by_tests true f is_r is_f = inl is_r
    by_tests false true is_r is_f = inr is_f
    by_tests false false is_r is_f = absurd (never (⊎_elim (λ opened. differ (sym is_r ∙ opened)) (λ opened. differ (sym is_f ∙ opened))))

-- the numbers of an attempt that is found by them
id_is : (worker serial : ℕ) (id : AttemptId) → is_id worker serial id ≡ true → (id.worker ≡ worker) × (id.serial ≡ serial)
id_is worker serial id h =
    let both = and_parts (id.worker == worker) (id.serial == serial) h in (is_equal id.worker worker both.0, is_equal id.serial serial both.1)

module _ (findings : List Finding) (journals : List (List Attempt)) (own : AttemptId) (line : ℕ) where
  abbrev Stands : ℕ → ℕ → Type 0
  Stands worker serial = IsStanding findings journals own line (record { worker = worker; serial = serial })

  -- no attempt of these that stands comes before the one that was found
  abbrev pub AreFrom : List AttemptId → Option AttemptId → Type 0
  AreFrom ids first = (worker serial : ℕ) → list_any (is_id worker serial) ids ≡ true → Stands worker serial → IsFrom first worker serial

  -- with one more
  pub from_more : (ids : List AttemptId) (i : ℕ) (d : AttemptId) (first next : Option AttemptId) → i < length ids → AreFrom (take i ids) first
      → (IsStanding findings journals own line (get_or ids i d) → IsFrom next (get_or ids i d).worker (get_or ids i d).serial)
      → ((worker serial : ℕ) → IsFrom first worker serial → IsFrom next worker serial)
      → AreFrom (take (i + 1) ids) next
  from_more ids i d first next lt from one stays worker serial is_listed stands =
      by_test (list_any (is_id worker serial) (take i ids)) (is_id worker serial (get_or ids i d)) refl refl (sym (list_any_more (is_id worker serial) ids i d lt) ∙ is_listed)
    where
      this : (id : AttemptId) → (IsStanding findings journals own line id → IsFrom next id.worker id.serial) → is_id worker serial id ≡ true → IsFrom next worker serial
      this id one h =
          let same = id_is worker serial id h in
          let stands_here : Stands id.worker id.serial = subst (λ (w : ℕ). Stands w id.serial) (sym same.0) (subst (λ (s : ℕ). Stands worker s) (sym same.1) stands) in
          subst (λ (w : ℕ). IsFrom next w serial) same.0 (subst (λ (s : ℕ). IsFrom next id.worker s) same.1 (one stands_here))

      by_test : (a b : Bool) → list_any (is_id worker serial) (take i ids) ≡ a → is_id worker serial (get_or ids i d) ≡ b → (a || b) ≡ true → IsFrom next worker serial
      by_test true b is_a is_b h = stays worker serial (from worker serial is_a stands)
      by_test false true is_a is_b h = this (get_or ids i d) one is_b
      by_test false false is_a is_b h = absurd (cc)

  -- the line is clear if none of its attempts was found
  pub clear_if_none : (ids : List AttemptId) (found : Option AttemptId) → AreFrom ids found → ((worker serial : ℕ) (e : Attempt) → IsAttempt journals line worker serial e → list_any (is_id worker serial) ids ≡ true) → IfNone found (IsClear findings journals own line)
  clear_if_none ids None from all = λ worker serial e a other. opened_unless findings worker serial e (λ isnt. from worker serial (all worker serial e a) (e, a, other, isnt))
  clear_if_none ids (Some first) from all = tt

  -- each other attempt before the one that was found is opened
  pub opened_before : (ids : List AttemptId) (found : Option AttemptId) → AreFrom ids found → ((worker serial : ℕ) (e : Attempt) → IsAttempt journals line worker serial e → list_any (is_id worker serial) ids ≡ true)
      → IfSome found (λ first. (worker serial : ℕ) (e : Attempt) → IsBefore first worker serial → IsAttempt journals line worker serial e → IsOther own worker serial → IsOpened findings worker serial e)
  opened_before ids None from all = tt
  opened_before ids (Some first) from all = λ worker serial e is_before a other. opened_unless findings worker serial e (λ isnt. from worker serial (all worker serial e a) (e, a, other, isnt) is_before)

-- what is listed stays so

listed_push : (xs : List (List AttemptId)) (k : ℕ) → slice_index_or (xs ++ [] ∷ []) k [] ≡ slice_index_or xs k []
listed_push [] zero = refl
listed_push [] (suc k) = refl
listed_push (x ∷ xs) zero = refl
listed_push (x ∷ xs) (suc k) = listed_push xs k

-- a line more, without an attempt
pub one_line_more : (lines : List (List AttemptId)) (line : ℕ) → listed (lines ++ [] ∷ []) line ≡ listed lines line
one_line_more lines zero = refl
one_line_more lines (suc k) = listed_push lines k

pub index_of_one_line_more : (lines : List (List AttemptId)) (journals : List (List Attempt)) → IsIndex lines journals → IsIndex (lines ++ [] ∷ []) journals
index_of_one_line_more lines journals index line worker serial e a = ap (list_any (is_id worker serial)) (one_line_more lines line) ∙ index line worker serial e a

or_first : (a b : Bool) → a ≡ true → (a || b) ≡ true
or_first a b h = ap (λ x. x || b) h

or_second : (a b : Bool) → b ≡ true → (a || b) ≡ true
or_second true b h = refl
or_second false b h = h

listed_set : (p : AttemptId → Bool) (lines : List (List AttemptId)) (i k : ℕ) (id : AttemptId) (d : List AttemptId) → i < length lines
    → list_any p (slice_index_or lines k []) ≡ true → list_any p (slice_index_or (set lines i (get_or lines i d ++ id ∷ [])) k []) ≡ true
listed_set p [] i k id d lt h = absurd (omega arith)
listed_set p (x ∷ lines) zero zero id d lt h = list_any-append p x (id ∷ []) ∙ or_first (list_any p x) (list_any p (id ∷ [])) h
listed_set p (x ∷ lines) zero (suc k) id d lt h = h
listed_set p (x ∷ lines) (suc i) zero id d lt h = h
listed_set p (x ∷ lines) (suc i) (suc k) id d lt h = listed_set p lines i k id d (omega (arith, lt)) h

lists_set : (p : AttemptId → Bool) (lines : List (List AttemptId)) (i : ℕ) (id : AttemptId) (d : List AttemptId) → i < length lines → p id ≡ true
    → list_any p (slice_index_or (set lines i (get_or lines i d ++ id ∷ [])) i []) ≡ true
lists_set p [] i id d lt h = absurd (omega arith)
lists_set p (x ∷ lines) zero id d lt h = list_any-append p x (id ∷ []) ∙ or_second (list_any p x) (list_any p (id ∷ [])) (or_first (p id) false h)
lists_set p (x ∷ lines) (suc i) id d lt h = lists_set p lines i id d (omega (arith, lt)) h

-- one attempt more at a line
pub listed_more : (lines : List (List AttemptId)) (i : ℕ) (id : AttemptId) (d : List AttemptId) (line worker serial : ℕ) → i < length lines
    → IsListed lines line worker serial → IsListed (set lines i (get_or lines i d ++ id ∷ [])) line worker serial
listed_more lines i id d zero worker serial lt h = h
listed_more lines i id d (suc k) worker serial lt h = listed_set (is_id worker serial) lines i k id d lt h

pub lists_more : (lines : List (List AttemptId)) (line : ℕ) (d : List AttemptId) (worker serial : ℕ) → 1 ≤ line → line - 1 < length lines
    → IsListed (set lines (line - 1) (get_or lines (line - 1) d ++ record { worker = worker; serial = serial } ∷ [])) line worker serial
lists_more lines zero d worker serial some lt = absurd (omega arith)
lists_more lines (suc k) d worker serial some lt =
    let at : suc k - 1 ≡ k = omega arith in
    let id : AttemptId = record { worker = worker; serial = serial } in
    subst (λ (i : ℕ). IsListed (set lines i (get_or lines i d ++ id ∷ [])) (suc k) worker serial) (sym at)
    (lists_set (is_id worker serial) lines k id d (omega (arith, lt, at)) (itself worker serial))
  where
    both : (a b : Bool) → a ≡ true → b ≡ true → (a && b) ≡ true
    both true true h g = refl
    both true false h g = g
    both false b h g = h

    itself : (worker serial : ℕ) → is_id worker serial (record { worker = worker; serial = serial }) ≡ true
    itself worker serial = both (worker == worker) (serial == serial) (grind (arith, nat_tests)) (grind (arith, nat_tests))

-- an entry more

-- the attempt was in the journal, or the entry is its intent
abbrev WasOrIs : ℕ → List Attempt → Entry → ℕ → Attempt → Type 0
WasOrIs count es entry s e =
    ((was : Attempt) × (slice_get es s ≡ Some was) × (was.line ≡ e.line)) ⊎ ((time : ℕ) × (entry ≡ Intent (s + 1) e.line time) × (is_line count e.line ≡ true))

noted_each : (count : ℕ) (es next : List Attempt) (entry : Entry) → noted count es entry ≡ Some next → (s : ℕ) (e : Attempt) → slice_get next s ≡ Some e → WasOrIs count es entry s e
noted_each count es next (Intent n m t) h s e at =
    let intent : Attempt = record { line = m; time = t; answer = None } in
    let pushed = intent_is count [] 1 m es next ((n == length es + 1) && is_line count m) intent h in
    let at_pushed : slice_get (es ++ intent ∷ []) s ≡ Some e = ap (λ (l : List Attempt). slice_get l s) pushed.1 ∙ at in
    let tests = and_parts (n == length es + 1) (is_line count m) pushed.0 in
    elim (cases_eq s (length es)) [
      | inl same ↦
          let last : intent ≡ e = here es [] intent e s same at_pushed in
          let of_line : m ≡ e.line = ap (λ (x : Attempt). x.line) last in
          let serial : n ≡ s + 1 = is_equal n (length es + 1) tests.0 ∙ ap (λ (x : ℕ). x + 1) (sym same) in
          inr (t, ap (λ (x : ℕ). Intent x m t) serial ∙ ap (λ (x : ℕ). Intent (s + 1) x t) of_line, subst (λ (x : ℕ). is_line count x ≡ true) of_line tests.1)
      | inr differs ↦ inl (e, not_last es intent e s differs at_pushed, refl)
    ]
noted_each count es next (Answered n a) h s e at =
    to_serial count [] 1 0 es next n a (λ i _ answered_so. let one = answered_each es next i s a e answered_so at in inl (one.was, one.at, one.line)) h

set_here : {A : Type 0} (xs : List A) (i : ℕ) (x y : A) → slice_get (set xs i x) i ≡ Some y → x ≡ y
set_here [] i x y at = absurd (cc)
set_here (z ∷ xs) zero x y at = cc
set_here (z ∷ xs) (suc i) x y at = set_here xs i x y at

set_there : {A : Type 0} (xs : List A) (i k : ℕ) (x : A) → k ≢ i → slice_get (set xs i x) k ≡ slice_get xs k
set_there [] i k x isnt = refl
set_there (z ∷ xs) zero zero x isnt = absurd (isnt refl)
set_there (z ∷ xs) zero (suc k) x isnt = refl
set_there (z ∷ xs) (suc i) zero x isnt = refl
set_there (z ∷ xs) (suc i) (suc k) x isnt = set_there xs i k x (λ is. isnt (ap suc is))

-- the index after an entry of which the intent was listed
pub index_of_noted : (lines : List (List AttemptId)) (journals : List (List Attempt)) (worker : ℕ) (es next : List Attempt) (entry : Entry)
    → IsIndex lines journals → ListsIntent lines worker entry → 1 ≤ worker → slice_get journals (worker - 1) ≡ Some es → noted (length lines) es entry ≡ Some next
    → IsIndex lines (set journals (worker - 1) next)
index_of_noted lines journals worker es next entry index lists some journal is line w s e a = elim (cases_eq (w - 1) (worker - 1)) [
  | inl same ↦
      let own : w ≡ worker = omega (arith, same, some, a.0) in
      let next_is : next ≡ a.2 = set_here journals (worker - 1) next a.2 (subst (λ (p : ℕ). slice_get (set journals (worker - 1) next) p ≡ Some a.2) same a.3) in
      let serial : s - 1 + 1 ≡ s = omega (arith, a.1) in
      ⊎_elim
      (λ (was : (was : Attempt) × (slice_get es (s - 1) ≡ Some was) × (was.line ≡ e.line)).
      index line w s was.0 (a.0, a.1, es, subst (λ (p : ℕ). slice_get journals p ≡ Some es) (sym same) journal, was.1, was.2 ∙ a.5))
      (λ (new : (time : ℕ) × (entry ≡ Intent (s - 1 + 1) e.line time) × (is_line (length lines) e.line ≡ true)).
      subst (λ (l : ℕ). IsListed lines l w s) a.5 (subst (λ (p : ℕ). IsListed lines e.line p s) (sym own) (subst (λ (n : ℕ). IsListed lines e.line worker n) serial (subst (ListsIntent lines worker) new.1 lists new.2))))
      (noted_each (length lines) es next entry is (s - 1) e (subst (λ (l : List Attempt). slice_get l (s - 1) ≡ Some e) (sym next_is) a.4))
  | inr differs ↦ index line w s e (a.0, a.1, a.2, sym (set_there journals (worker - 1) (w - 1) next differs) ∙ a.3, a.4, a.5)
]

-- journals without an attempt have nothing to list
pub index_of_none : (lines : List (List AttemptId)) (n : ℕ) → IsIndex lines (replicate n [])
index_of_none lines n line worker serial e a = absurd (none n (worker - 1) a.2 (serial - 1) e a.3 a.4)
  where
    none : (n p : ℕ) (es : List Attempt) (s : ℕ) (e : Attempt) → slice_get (replicate n []) p ≡ Some es → slice_get es s ≡ Some e → ⊥
    none zero p es s e journal at = cc
    none (suc n) zero es s e journal at =
        let empty : [] ≡ es = cc in
        let has : slice_get [] s ≡ Some e = subst (λ (l : List Attempt). slice_get l s ≡ Some e) (sym empty) at in cc
    none (suc n) (suc p) es s e journal at = none n p es s e journal at

-- the same of vectors

abbrev pub ids_in : List (Vec AttemptId Global) → List (List AttemptId)
ids_in lines = map (λ (line : Vec AttemptId Global). line.items) lines

abbrev pub attempts_in : List (Vec Attempt Global) → List (List Attempt)
attempts_in journals = map (λ (journal : Vec Attempt Global). journal.items) journals

at_line : (lines : List (Vec AttemptId Global)) (i : ℕ) (d : Vec AttemptId Global) → i < length lines → get_or (ids_in lines) i [] ≡ (get_or lines i d).items
at_line [] i d lt = absurd (omega arith)
at_line (v ∷ lines) zero d lt = refl
at_line (v ∷ lines) (suc i) d lt = at_line lines i d (omega (arith, lt))

pub listed_at : (lines : List (Vec AttemptId Global)) (line : ℕ) (v : Vec AttemptId Global) → 1 ≤ line → line - 1 < length lines → v ≡ get_or lines (line - 1) v → v.items ≡ listed (ids_in lines) line
listed_at lines zero v some lt is = absurd (omega arith)
listed_at lines (suc k) v some lt is =
    let at : suc k - 1 ≡ k = omega arith in
    ap (λ (l : Vec AttemptId Global). l.items) (is ∙ ap (λ (i : ℕ). get_or lines i v) at) ∙ sym (at_line lines k v (omega (arith, lt, at)))

pub pushed_at : (lines : List (Vec AttemptId Global)) (i : ℕ) (was now : Vec AttemptId Global) (id : AttemptId) → i < length lines → was ≡ get_or lines i was → now.items ≡ was.items ++ id ∷ []
    → ids_in (set lines i now) ≡ set (ids_in lines) i (get_or (ids_in lines) i [] ++ id ∷ [])
pushed_at lines i was now id lt is has =
    map-set (λ (line : Vec AttemptId Global). line.items) lines i now
    ∙ ap (set (ids_in lines) i) (has ∙ ap (λ (l : List AttemptId). l ++ id ∷ []) (ap (λ (l : Vec AttemptId Global). l.items) is ∙ sym (at_line lines i was lt)))

pub same_lines : (lines : List (Vec AttemptId Global)) (i : ℕ) (was now : Vec AttemptId Global) → was ≡ get_or lines i was → now.items ≡ was.items → ids_in (set lines i now) ≡ ids_in lines
same_lines lines i was now is same = map-set_same (λ (line : Vec AttemptId Global). line.items) lines i now was (same ∙ ap (λ (l : Vec AttemptId Global). l.items) is)

pub same_journals : (journals : List (Vec Attempt Global)) (i : ℕ) (was now : Vec Attempt Global) → was ≡ get_or journals i was → now.items ≡ was.items → attempts_in (set journals i now) ≡ attempts_in journals
same_journals journals i was now is same = map-set_same (λ (journal : Vec Attempt Global). journal.items) journals i now was (same ∙ ap (λ (l : Vec Attempt Global). l.items) is)

at_journal : (journals : List (Vec Attempt Global)) (i : ℕ) (was : Vec Attempt Global) → i < length journals → was ≡ get_or journals i was → slice_get (attempts_in journals) i ≡ Some was.items
at_journal [] i was lt is = absurd (omega arith)
at_journal (v ∷ journals) zero was lt is = ap (λ (l : Vec Attempt Global). Some l.items) (sym is)
at_journal (v ∷ journals) (suc i) was lt is = at_journal journals i was (omega (arith, lt)) is

-- one entry more in a journal
pub notes_in : (count worker : ℕ) (entry : Entry) (journals : List (Vec Attempt Global)) (was now : Vec Attempt Global) (done : Bool) → 1 ≤ worker → worker - 1 < length journals → was ≡ get_or journals (worker - 1) was
    → NotesOrNot count done was.items entry now.items → NotesIn count done (attempts_in journals) worker entry (attempts_in (set journals (worker - 1) now))
notes_in count worker entry journals was now true some lt is notes =
    (some, was.items, now.items, at_journal journals (worker - 1) was lt is, notes, map-set (λ (journal : Vec Attempt Global). journal.items) journals (worker - 1) now)
notes_in count worker entry journals was now false some lt is notes = (
  same_journals journals (worker - 1) was now is notes.1,
  λ es _ at.
      let same : was.items ≡ es = cc (at_journal journals (worker - 1) was lt is, at) in
      subst (λ (l : List Attempt). noted count l entry ≡ None) same notes.0,
)

is_noted_or_same : {E : Type 0} (count : ℕ) (es next : List Attempt) (entry : Entry) (r : Result Bool E) → IfOk r (λ done. NotesOrNot count done es entry next) → OnErr r (next ≡ es) → (noted count es entry ≡ Some next) ⊎ (next ≡ es)
is_noted_or_same count es next entry (Ok true) notes stays = inl notes
is_noted_or_same count es next entry (Ok false) notes stays = inr notes.1
is_noted_or_same count es next entry (Err e) notes stays = inr stays

-- the index after a try to note an entry of which the intent was listed
pub index_of_note : {E : Type 0} (lines : List (Vec AttemptId Global)) (journals : List (Vec Attempt Global)) (count worker : ℕ) (entry : Entry) (was now : Vec Attempt Global) (r : Result Bool E)
    → IsIndex (ids_in lines) (attempts_in journals) → ListsIntent (ids_in lines) worker entry → count ≡ length lines → 1 ≤ worker → worker - 1 < length journals → was ≡ get_or journals (worker - 1) was
    → IfOk r (λ done. NotesOrNot count done was.items entry now.items) → OnErr r (now.items ≡ was.items)
    → IsIndex (ids_in lines) (attempts_in (set journals (worker - 1) now))
index_of_note lines journals count worker entry was now r index lists many some lt is notes stays = ⊎_elim
    (λ (noted_so : noted count was.items entry ≡ Some now.items).
    subst (IsIndex (ids_in lines)) (sym (map-set (λ (journal : Vec Attempt Global). journal.items) journals (worker - 1) now))
    (index_of_noted (ids_in lines) (attempts_in journals) worker was.items now.items entry index lists some (at_journal journals (worker - 1) was lt is)
    (subst (λ (n : ℕ). noted n was.items entry ≡ Some now.items) (many ∙ sym (length-map lines (λ (line : Vec AttemptId Global). line.items))) noted_so)))
    (λ (same : now.items ≡ was.items). subst (IsIndex (ids_in lines)) (sym (same_journals journals (worker - 1) was now is same)) index)
    (is_noted_or_same count was.items now.items entry r notes stays)

-- a line more, in a vector, if there was memory
pub index_of_pushed : (done : Bool) (lines more : List (Vec AttemptId Global)) (line : Vec AttemptId Global) (journals : List (List Attempt)) → more ≡ (if done then lines ++ line ∷ [] else lines) → line.items ≡ []
    → IsIndex (ids_in lines) journals → IsIndex (ids_in more) journals
index_of_pushed false lines more line journals is empty index = subst (λ (l : List (Vec AttemptId Global)). IsIndex (ids_in l) journals) (sym is) index
index_of_pushed true lines more line journals is empty index =
    subst (λ (l : List (List AttemptId)). IsIndex l journals)
    (sym (ap ids_in is ∙ map-append (λ (line : Vec AttemptId Global). line.items) lines (line ∷ []) ∙ ap (λ (l : List AttemptId). ids_in lines ++ l ∷ []) empty))
    (index_of_one_line_more (ids_in lines) journals index)

pub on_err : {A E : Type 0} {P Q : Type 0} (r : Result A E) → OnErr r P → (P → Q) → OnErr r Q
on_err (Ok x) h follows = tt
on_err (Err e) h follows = follows h
