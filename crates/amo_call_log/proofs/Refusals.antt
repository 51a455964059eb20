-- A journal that is refused stays refused, whatever comes after it.
use Rattle.std.proofs.Common.{◌≡◌, ℕ, List, [], ◌∷◌, ◌++◌, Option, Some, None, take, drop, refl, sym, ap, subst, ◌∙◌, take-append-drop}
use Rattle.std.specs.Prelude.{option_and_then, option_map}
use Rattle.std.proofs.lemmas.Grind.{flat_map-append}
use Rattle.amo_run_log.specs.Entries.{append_in, appends_in, entries_of_append, entries_of_appends}
use Rattle.amo_run_log.specs.Journals.{attempts_in, journal_from, journal_of, noted, IsRefusedAppend}
use Rattle.amo_run_log.specs.Numbers.{read_all}
use Rattle.amo_run_log.specs.declared.append.Append.{Append}
use Rattle.amo_run_log.specs.declared.entry.Entry.{Entry}
use Rattle.amo_run_log.specs.declared.fault.Fault.TheVariants.{Refused}
use Rattle.amo_run_log.specs.declared.journal.Attempt.{Attempt}

-- entries of which one can't be noted, and further ones
journal_none : (count : ℕ) (from : List Attempt) (entries more : List Entry) → journal_from count from entries ≡ None → journal_from count from (entries ++ more) ≡ None
journal_none count from [] more is = absurd (cc)
journal_none count from (e ∷ entries) more is = by_case (λ next none. journal_none count next entries more none) (noted count from e) is
  where
    by_case : ((next : List Attempt) → journal_from count next entries ≡ None → journal_from count next (entries ++ more) ≡ None)
        → (o : Option (List Attempt)) → option_and_then (λ (next : List Attempt). journal_from count next entries) o ≡ None
        → option_and_then (λ (next : List Attempt). journal_from count next (entries ++ more)) o ≡ None
    by_case others None none = refl
    by_case others (Some next) none = others next none

-- texts of which one says nothing, and further ones
read_none : {A : Type 0} (read : List ℕ → Option A) (texts more : List (List ℕ)) → read_all read texts ≡ None → read_all read (texts ++ more) ≡ None
read_none read [] more is = absurd (cc)
read_none {A = A} read (text ∷ texts) more is = by_case (read text) (read_all read texts) (read_none read texts more) is
  where
    by_case : (o : Option A) (p : Option (List A)) → (p ≡ None → read_all read (texts ++ more) ≡ None)
        → option_and_then (λ x. option_map (λ xs. x ∷ xs) p) o ≡ None → option_and_then (λ x. option_map (λ xs. x ∷ xs) (read_all read (texts ++ more))) o ≡ None
    by_case None p rest none = refl
    by_case (Some x) None rest none = ap (option_map (λ xs. x ∷ xs)) (rest refl)
    by_case (Some x) (Some xs) rest none = absurd (cc)

-- texts that are all read, and further ones
read_both : {A : Type 0} (read : List ℕ → Option A) (texts more : List (List ℕ)) (xs : List A) → read_all read texts ≡ Some xs → read_all read (texts ++ more) ≡ option_map (λ ys. xs ++ ys) (read_all read more)
read_both {A = A} read [] more xs is = let none : [] ≡ xs = cc in subst (λ (zs : List A). read_all read more ≡ option_map (λ ys. zs ++ ys) (read_all read more)) none (same (read_all read more))
  where
    same : (o : Option (List A)) → o ≡ option_map (λ ys. [] ++ ys) o
    same None = refl
    same (Some ys) = refl
read_both {A = A} read (text ∷ texts) more xs is = by_case (read text) (read_all read texts) (read_both read texts more) is
  where
    joined : (x : A) (zs : List A) (o : Option (List A)) → option_map (λ ys. x ∷ ys) (option_map (λ ys. zs ++ ys) o) ≡ option_map (λ ys. (x ∷ zs) ++ ys) o
    joined x zs None = refl
    joined x zs (Some ys) = refl

    by_case : (o : Option A) (p : Option (List A)) → ((zs : List A) → p ≡ Some zs → read_all read (texts ++ more) ≡ option_map (λ ys. zs ++ ys) (read_all read more))
        → option_and_then (λ x. option_map (λ ys. x ∷ ys) p) o ≡ Some xs
        → option_and_then (λ x. option_map (λ ys. x ∷ ys) (read_all read (texts ++ more))) o ≡ option_map (λ ys. xs ++ ys) (read_all read more)
    by_case None p rest some = absurd (cc)
    by_case (Some x) None rest some = absurd (cc)
    by_case (Some x) (Some zs) rest some =
        let are : x ∷ zs ≡ xs = cc in
        ap (option_map (λ ys. x ∷ ys)) (rest zs refl) ∙ joined x zs (read_all read more) ∙ ap (λ (l : List A). option_map (λ ys. l ++ ys) (read_all read more)) are

-- appends that are no journal, and further ones
pub refused_more : (count : ℕ) (texts more : List (List ℕ)) → attempts_in count texts ≡ None → attempts_in count (texts ++ more) ≡ None
refused_more count texts more is = by_read (appends_in texts) refl is
  where
    by_more : (appends : List Append) → journal_of count (entries_of_appends appends) ≡ None → (o : Option (List Append))
        → option_and_then (λ (entries : List Entry). journal_of count entries) (option_map entries_of_appends (option_map (λ ys. appends ++ ys) o)) ≡ None
    by_more appends none None = refl
    by_more appends none (Some others) = ap (journal_of count) (flat_map-append entries_of_append appends others) ∙ journal_none count [] (entries_of_appends appends) (entries_of_appends others) none

    by_read : (o : Option (List Append)) → appends_in texts ≡ o → option_and_then (λ (entries : List Entry). journal_of count entries) (option_map entries_of_appends o) ≡ None
        → attempts_in count (texts ++ more) ≡ None
    by_read None read none = ap (λ (o : Option (List Append)). option_and_then (λ (entries : List Entry). journal_of count entries) (option_map entries_of_appends o)) (read_none append_in texts more read)
    by_read (Some appends) read none =
        ap (λ (o : Option (List Append)). option_and_then (λ (entries : List Entry). journal_of count entries) (option_map entries_of_appends o)) (read_both append_in texts more appends read)
        ∙ by_more appends none (appends_in more)

-- a journal that is refused at an append is no journal
pub refused_whole : (count : ℕ) (texts : List (List ℕ)) (number : ℕ) → IsRefusedAppend count texts (Refused number) → attempts_in count texts ≡ None
refused_whole count texts number refused =
    ap (attempts_in count) (sym (take-append-drop number texts)) ∙ refused_more count (take number texts) (drop number texts) refused.3
