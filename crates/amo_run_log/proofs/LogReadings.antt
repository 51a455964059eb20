-- More of answers and journals, a text at a time.
use Rattle.std.proofs.Common.{◌≡◌, ℕ, zero, suc, ◌+◌, ◌-◌, ◌<◌, ◌≤◌, Bool, true, false, length, drop, get_or, map, Vec, Global, List, [], ◌∷◌, ◌++◌, Option, Some, None, refl, sym, ap, subst, ◌∙◌, arith}
use Rattle.std.specs.Prelude.{slice_get, slice_set, option_and_then, option_map}
use Rattle.std.proofs.lemmas.List.{append_assoc, drop_all}
use Rattle.std.proofs.Math.Seq.{drop-cons}
use Rattle.amo_run_log.specs.declared.append.Append.{Append}
use Rattle.amo_run_log.specs.declared.entry.Entry.{Entry}
use Rattle.amo_run_log.specs.declared.finding.Finding.{Finding}
use Rattle.amo_run_log.specs.declared.journal.Attempt.{Attempt}
use Rattle.amo_run_log.specs.ByLine.{NotesIn}
use Rattle.amo_run_log.specs.Entries.{append_in, appends_in, entries_in, entries_of_append, entries_of_appends}
use Rattle.amo_run_log.specs.Findings.{finding_in, findings_in}
use Rattle.amo_run_log.specs.Journals.{journal_from, noted}
use Rattle.amo_run_log.proofs.AttemptTexts.{journal_on}
use Rattle.amo_run_log.proofs.TextLists.{bytes_of}
use Rattle.amo_run_log.specs.ReadLogs.{findings_after, journals_noting, journals_after, NotesEntries}

-- the texts that are left, the first of which is read next
pub text_next : (texts : List (Vec ℕ Global)) (i : ℕ) (text : Vec ℕ Global) → i < length texts → text ≡ get_or texts i text
    → map bytes_of (drop i texts) ≡ text.items ∷ map bytes_of (drop (i + 1) texts)
text_next texts i text within stands =
    ap (map bytes_of) (drop-cons texts i text within)
    ∙ ap (λ n. (get_or texts i text).items ∷ map bytes_of (drop n texts)) (suc_is i)
    ∙ ap (λ (t : Vec ℕ Global). t.items ∷ map bytes_of (drop (i + 1) texts)) (sym stands)
  where
    suc_is : (k : ℕ) → suc k ≡ k + 1
    suc_is k = omega arith

-- none is left
pub no_text : (texts : List (Vec ℕ Global)) (i : ℕ) → length texts ≤ i → map bytes_of (drop i texts) ≡ []
no_text texts i past = ap (map bytes_of) (drop_all i texts past)

-- findings

-- one more that says a finding
pub finding_more : (findings : List Finding) (text : List ℕ) (texts : List (List ℕ)) (f : Finding) → finding_in text ≡ Some f
    → findings_after findings (text ∷ texts) ≡ findings_after (findings ++ f ∷ []) texts
finding_more findings text texts f is =
    ap (λ o. option_map (λ more. findings ++ more) (option_and_then (λ x. option_map (λ xs. x ∷ xs) (findings_in texts)) o)) is ∙ by_rest (findings_in texts)
  where
    by_rest : (o : Option (List Finding)) → option_map (λ more. findings ++ more) (option_map (λ xs. f ∷ xs) o) ≡ option_map (λ more. (findings ++ f ∷ []) ++ more) o
    by_rest None = refl
    by_rest (Some xs) = ap Some (sym (append_assoc findings (f ∷ []) xs))

-- one more that says none
pub finding_none : (findings : List Finding) (text : List ℕ) (texts : List (List ℕ)) → finding_in text ≡ None → findings_after findings (text ∷ texts) ≡ None
finding_none findings text texts none =
    ap (λ o. option_map (λ more. findings ++ more) (option_and_then (λ x. option_map (λ xs. x ∷ xs) (findings_in texts)) o)) none

-- journals

get_set : {A : Type 0} (xs : List A) (k : ℕ) (x y : A) → slice_get xs k ≡ Some x → slice_get (slice_set xs k y) k ≡ Some y
get_set [] k x y is = absurd (cc)
get_set (z ∷ xs) zero x y is = refl
get_set (z ∷ xs) (suc k) x y is = get_set xs k x y is

set_set : {A : Type 0} (xs : List A) (k : ℕ) (x y : A) → slice_set (slice_set xs k x) k y ≡ slice_set xs k y
set_set [] k x y = refl
set_set (z ∷ xs) zero x y = refl
set_set (z ∷ xs) (suc k) x y = ap (λ l. z ∷ l) (set_set xs k x y)

set_same : {A : Type 0} (xs : List A) (k : ℕ) (x : A) → slice_get xs k ≡ Some x → slice_set xs k x ≡ xs
set_same [] k x is = refl
set_same {A = A} (z ∷ xs) zero x is = let same : z ≡ x = cc in ap (λ (y : A). y ∷ xs) (sym same)
set_same (z ∷ xs) (suc k) x is = ap (λ l. z ∷ l) (set_same xs k x is)

length_set : {A : Type 0} (xs : List A) (k : ℕ) (x : A) → length (slice_set xs k x) ≡ length xs
length_set [] k x = refl
length_set (z ∷ xs) zero x = refl
length_set (z ∷ xs) (suc k) x = ap suc (length_set xs k x)

get_within : {A : Type 0} (xs : List A) (k : ℕ) → k < length xs → slice_get xs k ≡ None → ⊥
get_within [] k lt none = omega (arith, lt)
get_within (z ∷ xs) zero lt none = cc
get_within (z ∷ xs) (suc k) lt none = get_within xs k (omega (arith, lt)) none

-- entries of which some can't be noted
journal_none : (count : ℕ) (from : List Attempt) (entries more : List Entry) → journal_from count from entries ≡ None → journal_from count from (entries ++ more) ≡ None
journal_none count from [] more is = absurd (cc)
journal_none count from (e ∷ entries) more is = by_case (λ next none. journal_none count next entries more none) (noted count from e) is
  where
    by_case : ((next : List Attempt) → journal_from count next entries ≡ None → journal_from count next (entries ++ more) ≡ None)
        → (o : Option (List Attempt)) → option_and_then (λ (next : List Attempt). journal_from count next entries) o ≡ None
        → option_and_then (λ (next : List Attempt). journal_from count next (entries ++ more)) o ≡ None
    by_case others None none = refl
    by_case others (Some next) none = others next none

module _ (count : ℕ) where
  abbrev at : List (List Attempt) → ℕ → List Entry → Option (List (List Attempt))
  at journals k entries = option_and_then (λ es. option_map (λ next. slice_set journals k next) (journal_from count es entries)) (slice_get journals k)

  by_place : (journals : List (List Attempt)) (worker : ℕ) (entries : List Entry) → 1 ≤ worker → journals_noting count journals worker entries ≡ at journals (worker - 1) entries
  by_place journals zero entries low = absurd (omega arith)
  by_place journals (suc k) entries low = ap (λ (n : ℕ). at journals n entries) (omega arith)

  noted_at : (journals : List (List Attempt)) (k : ℕ) (es next : List Attempt) (e : Entry) (rest : List Entry) → slice_get journals k ≡ Some es → noted count es e ≡ Some next
      → at journals k (e ∷ rest) ≡ at (slice_set journals k next) k rest
  noted_at journals k es next e rest here is =
      ap (λ o. option_and_then (λ xs. option_map (λ ys. slice_set journals k ys) (journal_from count xs (e ∷ rest))) o) here
      ∙ ap (λ o. option_map (λ ys. slice_set journals k ys) (option_and_then (λ (xs : List Attempt). journal_from count xs rest) o)) is
      ∙ by_rest (journal_from count next rest)
      ∙ ap (λ o. option_and_then (λ xs. option_map (λ ys. slice_set (slice_set journals k next) k ys) (journal_from count xs rest)) o) (sym (get_set journals k es next here))
    where
      by_rest : (o : Option (List Attempt)) → option_map (λ ys. slice_set journals k ys) o ≡ option_map (λ ys. slice_set (slice_set journals k next) k ys) o
      by_rest None = refl
      by_rest (Some ys) = ap Some (sym (set_set journals k next ys))

  refused_at : (journals : List (List Attempt)) (k : ℕ) (e : Entry) (rest : List Entry) → ((es : List Attempt) → slice_get journals k ≡ Some es → noted count es e ≡ None) → at journals k (e ∷ rest) ≡ None
  refused_at journals k e rest never = by_journal (slice_get journals k) refl
    where
      by_journal : (o : Option (List Attempt)) → slice_get journals k ≡ o → option_and_then (λ xs. option_map (λ ys. slice_set journals k ys) (journal_from count xs (e ∷ rest))) o ≡ None
      by_journal None is = refl
      by_journal (Some es) is = ap (λ o. option_map (λ ys. slice_set journals k ys) (option_and_then (λ (xs : List Attempt). journal_from count xs rest) o)) (never es is)

  -- one entry more that was noted
  pub noted_more : (old new : List (List Attempt)) (worker : ℕ) (e : Entry) (rest : List Entry) → NotesIn count true old worker e new
      → journals_noting count old worker (e ∷ rest) ≡ journals_noting count new worker rest
  noted_more old new worker e rest notes =
      by_place old worker (e ∷ rest) notes.0
      ∙ noted_at old (worker - 1) notes.1 notes.2 e rest notes.3 notes.4
      ∙ ap (λ js. at js (worker - 1) rest) (sym notes.5)
      ∙ sym (by_place new worker rest notes.0)

  -- one that wasn't
  pub noted_none : (old new : List (List Attempt)) (worker : ℕ) (e : Entry) (rest : List Entry) → NotesIn count false old worker e new → journals_noting count old worker (e ∷ rest) ≡ None
  noted_none old new zero e rest notes = refl
  noted_none old new (suc k) e rest notes =
      refused_at old k e rest (λ es here. notes.1 es (omega arith) (subst (λ (n : ℕ). slice_get old n ≡ Some es) (omega arith) here))

  -- no more entries
  noted_all : (journals : List (List Attempt)) (worker : ℕ) (es : List Attempt) → 1 ≤ worker → slice_get journals (worker - 1) ≡ Some es → journals_noting count journals worker [] ≡ Some journals
  noted_all journals worker es low here =
      by_place journals worker [] low ∙ ap (λ o. option_and_then (λ xs. option_map (λ ys. slice_set journals (worker - 1) ys) (Some xs)) o) here ∙ ap Some (set_same journals (worker - 1) es here)

  -- one entry
  pub notes_one : (b : Bool) (old new : List (List Attempt)) (worker : ℕ) (e : Entry) → NotesIn count b old worker e new → NotesEntries count b old worker (e ∷ []) new
  notes_one true old new worker e notes =
      noted_more old new worker e [] notes
      ∙ noted_all new worker notes.2 notes.0 (subst (λ js. slice_get js (worker - 1) ≡ Some notes.2) (sym notes.5) (get_set old (worker - 1) notes.1 notes.2 notes.3))
  notes_one false old new worker e notes = noted_none old new worker e [] notes

  -- two entries
  pub notes_two : (b : Bool) (old mid new : List (List Attempt)) (worker : ℕ) (first second : Entry) → NotesIn count true old worker first mid → NotesIn count b mid worker second new
      → NotesEntries count b old worker (first ∷ second ∷ []) new
  notes_two true old mid new worker first second one other = noted_more old mid worker first (second ∷ []) one ∙ notes_one true mid new worker second other
  notes_two false old mid new worker first second one other = noted_more old mid worker first (second ∷ []) one ∙ noted_none mid new worker second [] other

  -- there are as many journals as there were
  pub kept_length : (old new : List (List Attempt)) (worker : ℕ) (entries : List Entry) → journals_noting count old worker entries ≡ Some new → length new ≡ length old
  kept_length old new zero entries is = absurd (cc)
  kept_length old new (suc k) entries is = by_journal (slice_get old k) is
    where
      by_journal : (o : Option (List Attempt)) → option_and_then (λ es. option_map (λ next. slice_set old k next) (journal_from count es entries)) o ≡ Some new → length new ≡ length old
      by_journal None none = absurd (cc)
      by_journal (Some es) some = by_next (journal_from count es entries) some
        where
          by_next : (o : Option (List Attempt)) → option_map (λ next. slice_set old k next) o ≡ Some new → length new ≡ length old
          by_next None none = absurd (cc)
          by_next (Some next) is_new = let same : slice_set old k next ≡ new = cc in ap length (sym same) ∙ length_set old k next

  -- entries of appends, and more

  noting_on : (journals mid : List (List Attempt)) (worker : ℕ) (entries rest : List Entry) → journals_noting count journals worker entries ≡ Some mid
      → journals_noting count journals worker (entries ++ rest) ≡ journals_noting count mid worker rest
  noting_on journals mid zero entries rest is = absurd (cc)
  noting_on journals mid (suc k) entries rest is = by_journal (slice_get journals k) refl is
    where
      by_journal : (o : Option (List Attempt)) → slice_get journals k ≡ o
          → option_and_then (λ es. option_map (λ next. slice_set journals k next) (journal_from count es entries)) o ≡ Some mid
          → option_and_then (λ es. option_map (λ next. slice_set journals k next) (journal_from count es (entries ++ rest))) o
          ≡ option_and_then (λ es. option_map (λ next. slice_set mid k next) (journal_from count es rest)) (slice_get mid k)
      by_journal None here none = absurd (cc)
      by_journal (Some es) here some = by_next (journal_from count es entries) refl some
        where
          by_next : (o : Option (List Attempt)) → journal_from count es entries ≡ o → option_map (λ next. slice_set journals k next) o ≡ Some mid
              → option_map (λ next. slice_set journals k next) (journal_from count es (entries ++ rest))
              ≡ option_and_then (λ xs. option_map (λ next. slice_set mid k next) (journal_from count xs rest)) (slice_get mid k)
          by_next None noted_so none = absurd (cc)
          by_next (Some next) noted_so is_mid =
              let same : slice_set journals k next ≡ mid = cc in
              ap (option_map (λ ys. slice_set journals k ys)) (journal_on count es next entries rest noted_so)
              ∙ by_rest (journal_from count next rest)
              ∙ ap (λ o. option_and_then (λ xs. option_map (λ ys. slice_set (slice_set journals k next) k ys) (journal_from count xs rest)) o) (sym (get_set journals k es next here))
              ∙ ap (λ js. option_and_then (λ xs. option_map (λ ys. slice_set js k ys) (journal_from count xs rest)) (slice_get js k)) same
            where
              by_rest : (o : Option (List Attempt)) → option_map (λ ys. slice_set journals k ys) o ≡ option_map (λ ys. slice_set (slice_set journals k next) k ys) o
              by_rest None = refl
              by_rest (Some ys) = ap Some (sym (set_set journals k next ys))

  noting_none : (journals : List (List Attempt)) (worker : ℕ) (entries rest : List Entry) → journals_noting count journals worker entries ≡ None → journals_noting count journals worker (entries ++ rest) ≡ None
  noting_none journals zero entries rest is = refl
  noting_none journals (suc k) entries rest is = by_journal (slice_get journals k) is
    where
      by_journal : (o : Option (List Attempt))
          → option_and_then (λ es. option_map (λ next. slice_set journals k next) (journal_from count es entries)) o ≡ None
          → option_and_then (λ es. option_map (λ next. slice_set journals k next) (journal_from count es (entries ++ rest))) o ≡ None
      by_journal None is = refl
      by_journal (Some es) is = by_next (journal_from count es entries) refl is
        where
          by_next : (o : Option (List Attempt)) → journal_from count es entries ≡ o → option_map (λ next. slice_set journals k next) o ≡ None
              → option_map (λ next. slice_set journals k next) (journal_from count es (entries ++ rest)) ≡ None
          by_next None noted_so none = ap (option_map (λ ys. slice_set journals k ys)) (journal_none count es entries rest noted_so)
          by_next (Some next) noted_so some = absurd (cc)

  -- the journals after a text that says an append, and others
  text_is : (journals : List (List Attempt)) (worker : ℕ) (text : List ℕ) (texts : List (List ℕ)) (append : Append) → append_in text ≡ Some append
      → journals_after count journals worker (text ∷ texts) ≡ option_and_then (λ entries. journals_noting count journals worker (entries_of_append append ++ entries)) (entries_in texts)
  text_is journals worker text texts append is =
      ap (λ o. option_and_then (λ entries. journals_noting count journals worker entries) (option_map entries_of_appends (option_and_then (λ x. option_map (λ xs. x ∷ xs) (appends_in texts)) o))) is
      ∙ by_rest (appends_in texts)
    where
      by_rest : (o : Option (List Append)) → option_and_then (λ entries. journals_noting count journals worker entries) (option_map entries_of_appends (option_map (λ xs. append ∷ xs) o))
          ≡ option_and_then (λ entries. journals_noting count journals worker (entries_of_append append ++ entries)) (option_map entries_of_appends o)
      by_rest None = refl
      by_rest (Some xs) = refl

  -- a text more, whose entries were noted
  pub text_more : (old new : List (List Attempt)) (worker : ℕ) (text : List ℕ) (texts : List (List ℕ)) (append : Append) → append_in text ≡ Some append
      → NotesEntries count true old worker (entries_of_append append) new → journals_after count old worker (text ∷ texts) ≡ journals_after count new worker texts
  text_more old new worker text texts append is notes = text_is old worker text texts append is ∙ by_rest (entries_in texts)
    where
      by_rest : (o : Option (List Entry)) → option_and_then (λ entries. journals_noting count old worker (entries_of_append append ++ entries)) o ≡ option_and_then (λ entries. journals_noting count new worker entries) o
      by_rest None = refl
      by_rest (Some rest) = noting_on old new worker (entries_of_append append) rest notes

  -- one whose entries weren't
  pub text_refused : (old new : List (List Attempt)) (worker : ℕ) (text : List ℕ) (texts : List (List ℕ)) (append : Append) → append_in text ≡ Some append
      → NotesEntries count false old worker (entries_of_append append) new → journals_after count old worker (text ∷ texts) ≡ None
  text_refused old new worker text texts append is notes = text_is old worker text texts append is ∙ by_rest (entries_in texts)
    where
      by_rest : (o : Option (List Entry)) → option_and_then (λ entries. journals_noting count old worker (entries_of_append append ++ entries)) o ≡ None
      by_rest None = refl
      by_rest (Some rest) = noting_none old worker (entries_of_append append) rest notes

  -- one that says no append
  pub text_none : (old : List (List Attempt)) (worker : ℕ) (text : List ℕ) (texts : List (List ℕ)) → append_in text ≡ None → journals_after count old worker (text ∷ texts) ≡ None
  text_none old worker text texts none =
      ap (λ o. option_and_then (λ entries. journals_noting count old worker entries) (option_map entries_of_appends (option_and_then (λ x. option_map (λ xs. x ∷ xs) (appends_in texts)) o))) none

  -- all texts were read
  pub texts_all : (journals : List (List Attempt)) (worker : ℕ) → 1 ≤ worker → worker ≤ length journals → journals_after count journals worker [] ≡ Some journals
  texts_all journals zero low high = absurd (omega arith)
  texts_all journals (suc k) low high = by_place_in journals k (omega (arith, high))
    where
      by_place_in : (js : List (List Attempt)) (k : ℕ) → k < length js → journals_noting count js (suc k) [] ≡ Some js
      by_place_in js k lt = by_get (slice_get js k) refl
        where
          by_get : (o : Option (List Attempt)) → slice_get js k ≡ o → option_and_then (λ es. option_map (λ next. slice_set js k next) (Some es)) o ≡ Some js
          by_get None none = absurd (get_within js k lt none)
          by_get (Some es) here = ap Some (set_same js k es here)
