-- The journal that the texts of appends say, an append at a time.
use Rattle.std.proofs.Common.{◌≡◌, ◌+◌, ◌-◌, ◌<◌, ℕ, Bool, true, false, List, [], ◌∷◌, ◌++◌, Vec, Global, map, take, length, get_or, Option, Some, None, refl, sym, ap, ◌∙◌, arith}
use Rattle.std.specs.Prelude.{option_and_then, option_map}
use Rattle.std.proofs.lemmas.List.{map_push, take_more, take-map, length-map}
use Rattle.amo_run_log.specs.declared.append.Append.{Append}
use Rattle.amo_run_log.specs.declared.entry.Entry.{Entry}
use Rattle.amo_run_log.specs.declared.fault.Fault.TheVariants.{Refused}
use Rattle.amo_run_log.specs.declared.journal.Attempt.{Attempt}
use Rattle.amo_run_log.specs.Entries.{append_in, appends_in, entries_in, entries_of_append, entries_of_appends}
use Rattle.amo_run_log.specs.Journals.{attempts_in, journal_from, journal_of, noted, IsRefusedAppend, NotesAllOrNot}
use Rattle.amo_run_log.specs.Numbers.{read_all}
use Rattle.amo_run_log.proofs.AppendTexts.{entries_more, map_some}
use Rattle.amo_run_log.proofs.TextLists.{bytes_of, one_more}
use Rattle.amo_run_log.proofs.Words.{and_then_some}

-- the entries of the appends up to one
pub entries_step : (appends : List Append) (i : ℕ) (d : Append) → i < length appends → entries_of_appends (take (i + 1) appends) ≡ entries_of_appends (take i appends) ++ entries_of_append (get_or appends i d)
entries_step appends i d within = ap entries_of_appends (take_more appends i d within) ∙ entries_more (take i appends) (get_or appends i d)

-- further entries are noted on what the entries before them have left
pub journal_on : (count : ℕ) (from es : List Attempt) (entries more : List Entry) → journal_from count from entries ≡ Some es → journal_from count from (entries ++ more) ≡ journal_from count es more
journal_on count from es [] more is = let same : from ≡ es = cc in ap (λ xs. journal_from count xs more) same
journal_on count from es (e ∷ entries) more is = by_case (λ next some. journal_on count next es entries more some) (noted count from e) is
  where
    by_case : ((next : List Attempt) → journal_from count next entries ≡ Some es → journal_from count next (entries ++ more) ≡ journal_from count es more) → (o : Option (List Attempt)) → option_and_then (λ (next : List Attempt). journal_from count next entries) o ≡ Some es → option_and_then (λ (next : List Attempt). journal_from count next (entries ++ more)) o ≡ journal_from count es more
    by_case rest None none = absurd (cc)
    by_case rest (Some next) some = rest next some

-- a text more that says nothing
none_more : {A : Type 0} (read : List ℕ → Option A) (texts : List (List ℕ)) (text : List ℕ) → read text ≡ None → read_all read (texts ++ text ∷ []) ≡ None
none_more read [] text none = ap (λ o. option_and_then (λ x. option_map (λ xs. x ∷ xs) (Some [])) o) none
none_more {A = A} read (t ∷ texts) text none = by_case (read t) (none_more read texts text none)
  where
    by_case : (o : Option A) → read_all read (texts ++ text ∷ []) ≡ None → option_and_then (λ x. option_map (λ xs. x ∷ xs) (read_all read (texts ++ text ∷ []))) o ≡ None
    by_case None rest = refl
    by_case (Some x) rest = ap (option_map (λ xs. x ∷ xs)) rest

module _ (count : ℕ) (texts : List (List ℕ)) (text : List ℕ) (es : List Attempt) (are : attempts_in count texts ≡ Some es) where
  pub attempts_more : (append : Append) → append_in text ≡ Some append → attempts_in count (texts ++ text ∷ []) ≡ journal_from count es (entries_of_append append)
  attempts_more append is =
      let (entries, said, journal) = and_then_some (λ (xs : List Entry). journal_of count xs) (entries_in texts) es are in
      let (appends, read, flat) = map_some entries_of_appends (appends_in texts) entries said in
      let all : entries_of_appends (appends ++ append ∷ []) ≡ entries ++ entries_of_append append = entries_more appends append ∙ ap (λ l. l ++ entries_of_append append) flat in
      ap (λ o. option_and_then (λ (xs : List Entry). journal_of count xs) (option_map entries_of_appends o)) (one_more append_in texts appends text append read is)
      ∙ ap (journal_of count) all
      ∙ journal_on count [] es entries (entries_of_append append) journal

  pub attempts_none : append_in text ≡ None → attempts_in count (texts ++ text ∷ []) ≡ None
  attempts_none none = ap (λ o. option_and_then (λ (xs : List Entry). journal_of count xs) (option_map entries_of_appends o)) (none_more append_in texts text none)

-- texts in vectors

next_texts : (texts : List (Vec ℕ Global)) (i : ℕ) (text : Vec ℕ Global) → i < length texts → text ≡ get_or texts i text → map bytes_of (take (i + 1) texts) ≡ map bytes_of (take i texts) ++ text.items ∷ []
next_texts texts i text within stands =
    let next : take (i + 1) texts ≡ take i texts ++ text ∷ [] = take_more texts i text within ∙ ap (λ t. take i texts ++ t ∷ []) (sym stands) in
    ap (map bytes_of) next ∙ map_push bytes_of (take i texts) text

pub notes_on : (count : ℕ) (texts : List (Vec ℕ Global)) (i : ℕ) (es next : List Attempt) (text : Vec ℕ Global) (append : Append) (b : Bool) → i < length texts → text ≡ get_or texts i text
    → attempts_in count (map bytes_of (take i texts)) ≡ Some es → append_in text.items ≡ Some append → b ≡ true → NotesAllOrNot count b es append next
    → attempts_in count (map bytes_of (take (i + 1) texts)) ≡ Some next
notes_on count texts i es next text append true within stands are is holds notes =
    ap (attempts_in count) (next_texts texts i text within stands) ∙ attempts_more count (map bytes_of (take i texts)) text.items es are append is ∙ notes
notes_on count texts i es next text append false within stands are is holds notes = absurd (cc)

-- the append of this number is refused

some_none : {A : Type 0} {x : A} → Some x ≡ None → ⊥
some_none e = cc

refused_at : (count : ℕ) (texts : List (Vec ℕ Global)) (i : ℕ) (es : List Attempt) → i < length texts → attempts_in count (map bytes_of (take i texts)) ≡ Some es → attempts_in count (map bytes_of (take (i + 1) texts)) ≡ None
    → IsRefusedAppend count (map bytes_of texts) (Refused (i + 1))
refused_at count texts i es within are none =
    let before : (i + 1) - 1 ≡ i = omega arith in (
      omega arith,
      omega (arith, within, length-map texts bytes_of),
      λ gone. some_none (sym (ap (λ k. attempts_in count (take k (map bytes_of texts))) before ∙ ap (attempts_in count) (take-map bytes_of i texts) ∙ are) ∙ gone),
      ap (attempts_in count) (take-map bytes_of (i + 1) texts) ∙ none,
    )

pub refused_unread : (count : ℕ) (texts : List (Vec ℕ Global)) (i : ℕ) (es : List Attempt) (text : Vec ℕ Global) → i < length texts → text ≡ get_or texts i text
    → attempts_in count (map bytes_of (take i texts)) ≡ Some es → append_in text.items ≡ None → IsRefusedAppend count (map bytes_of texts) (Refused (i + 1))
refused_unread count texts i es text within stands are none =
    refused_at count texts i es within are (ap (attempts_in count) (next_texts texts i text within stands) ∙ attempts_none count (map bytes_of (take i texts)) text.items es are none)

pub refused_there : (count : ℕ) (texts : List (Vec ℕ Global)) (i : ℕ) (es next : List Attempt) (text : Vec ℕ Global) (append : Append) (b : Bool) → i < length texts → text ≡ get_or texts i text
    → attempts_in count (map bytes_of (take i texts)) ≡ Some es → append_in text.items ≡ Some append → b ≡ false → NotesAllOrNot count b es append next
    → IsRefusedAppend count (map bytes_of texts) (Refused (i + 1))
refused_there count texts i es next text append true within stands are is fails notes = absurd (cc)
refused_there count texts i es next text append false within stands are is fails notes =
    refused_at count texts i es within are (ap (attempts_in count) (next_texts texts i text within stands) ∙ attempts_more count (map bytes_of (take i texts)) text.items es are append is ∙ notes)
