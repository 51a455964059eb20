-- Attempts by index, and journals an entry at a time.
use Rattle.std.proofs.Common.{◌≡◌, ℕ, zero, suc, ◌+◌, ◌-◌, ◌<◌, ◌≤◌, Bool, true, false, cond, List, [], ◌∷◌, ◌++◌, length, get_or, take, Option, Some, None, refl, ap, ◌∙◌, arith}
use Rattle.std.specs.Prelude.{is_none, is_some, option_and_then, option_map}
use Rattle.std.proofs.Math.ListN.{set}
use Rattle.std.proofs.lemmas.List.{take_more}
use Rattle.amo_run_log.specs.declared.entry.Outcome.{Outcome}
use Rattle.amo_run_log.specs.declared.journal.Attempt.{Attempt}
use Rattle.amo_run_log.specs.declared.entry.Entry.{Entry}
use Rattle.amo_run_log.specs.Journals.{answered, answered_to, noted, journal_from, journal_of, NotesOrNot}

pub answered_at : (es : List Attempt) (i : ℕ) (a : Outcome) (d : Attempt) → i < length es → (get_or es i d).answer ≡ None → answered es i a ≡ Some (set es i (record (get_or es i d) { answer = Some a }))
answered_at [] i a d lt none = absurd (omega arith)
answered_at (e ∷ es) zero a d lt none = ap (λ o. cond (is_none o) (Some (record e { answer = Some a } ∷ es)) None) none
answered_at (e ∷ es) (suc i) a d lt none = ap (option_map (λ rest. e ∷ rest)) (answered_at es i a d (omega arith) none)

pub answered_not : (es : List Attempt) (i : ℕ) (a : Outcome) (d : Attempt) → i < length es → is_some (get_or es i d).answer ≡ true → answered es i a ≡ None
answered_not [] i a d lt some = absurd (omega arith)
answered_not (e ∷ es) zero a d lt some = taken e.answer some
  where
    taken : (o : Option Outcome) → is_some o ≡ true → cond (is_none o) (Some (record e { answer = Some a } ∷ es)) None ≡ None
    taken None s = absurd (cc)
    taken (Some b) s = refl
answered_not (e ∷ es) (suc i) a d lt some = ap (option_map (λ rest. e ∷ rest)) (answered_not es i a d (omega arith) some)

pub answered_past : (es : List Attempt) (i : ℕ) (a : Outcome) → length es ≤ i → answered es i a ≡ None
answered_past [] i a le = refl
answered_past (e ∷ es) zero a le = absurd (omega arith)
answered_past (e ∷ es) (suc i) a le = ap (option_map (λ rest. e ∷ rest)) (answered_past es i a (omega arith))

pub serial : (es : List Attempt) (s : ℕ) (a : Outcome) → 0 < s → answered_to es s a ≡ answered es (s - 1) a
serial es zero a pos = absurd (omega arith)
serial es (suc i) a pos = let same : i ≡ suc i - 1 = omega arith in ap (λ k. answered es k a) same

-- an entry more
pub journal_push : (count : ℕ) (es fs : List Attempt) (entries : List Entry) (entry : Entry) → journal_from count es entries ≡ Some fs → journal_from count es (entries ++ entry ∷ []) ≡ noted count fs entry
journal_push count es fs [] entry is = let same : es ≡ fs = cc in by_case (noted count es entry) ∙ ap (λ xs. noted count xs entry) same
  where
    by_case : (o : Option (List Attempt)) → option_and_then (λ (next : List Attempt). Some next) o ≡ o
    by_case None = refl
    by_case (Some x) = refl
journal_push count es fs (l ∷ entries) entry is = by_case (λ next h. journal_push count next fs entries entry h) (noted count es l) is
  where
    by_case : ((next : List Attempt) → journal_from count next entries ≡ Some fs → journal_from count next (entries ++ entry ∷ []) ≡ noted count fs entry) → (o : Option (List Attempt))
        → option_and_then (λ (next : List Attempt). journal_from count next entries) o ≡ Some fs → option_and_then (λ (next : List Attempt). journal_from count next (entries ++ entry ∷ [])) o ≡ noted count fs entry
    by_case more None none = absurd (cc)
    by_case more (Some x) some = more x some

pub journal_more : (count : ℕ) (entries : List Entry) (i : ℕ) (d : Entry) (fs : List Attempt) → i < length entries → journal_of count (take i entries) ≡ Some fs → journal_of count (take (i + 1) entries) ≡ noted count fs (get_or entries i d)
journal_more count entries i d fs lt is = ap (journal_of count) (take_more entries i d lt) ∙ journal_push count [] fs (take i entries) (get_or entries i d) is

pub is_noted : (count : ℕ) (b : Bool) (old : List Attempt) (entry : Entry) (new : List Attempt) → b ≡ true → NotesOrNot count b old entry new → noted count old entry ≡ Some new
is_noted count true old entry new e h = h
is_noted count false old entry new e h = absurd (cc)

pub isnt_noted : (count : ℕ) (b : Bool) (old : List Attempt) (entry : Entry) (new : List Attempt) → b ≡ false → NotesOrNot count b old entry new → noted count old entry ≡ None
isnt_noted count true old entry new e h = absurd (cc)
isnt_noted count false old entry new e h = h.0

pub none_of : {A : Type 0} (o : Option A) → is_some o ≡ false → o ≡ None
none_of None h = refl
none_of (Some x) h = absurd (cc)
