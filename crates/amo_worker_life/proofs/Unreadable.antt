-- Texts that can't be read: those before one that can't be are read in vain.
use Rattle.std.proofs.Common.{◌≡◌, ℕ, List, [], ◌∷◌, ◌++◌, drop, take, Option, None, Some, refl, sym, ap, subst, ◌∙◌}
use Rattle.std.proofs.lemmas.List.{take-append-drop}
use Rattle.std.proofs.lemmas.Grind.{flat_map-append}
use Rattle.std.specs.Prelude.{option_and_then, option_map}
use Rattle.amo_run_log.specs.declared.append.Append.{Append}
use Rattle.amo_run_log.specs.declared.entry.Entry.{Entry}
use Rattle.amo_run_log.specs.declared.journal.Attempt.{Attempt}
use Rattle.amo_run_log.specs.Entries.{append_in, appends_in, entries_in, entries_of_append, entries_of_appends}
use Rattle.amo_run_log.specs.declared.fault.Fault.{Fault}
use Rattle.amo_run_log.specs.declared.fault.Fault.TheVariants.{Memory, Refused}
use Rattle.amo_run_log.specs.Journals.{attempts_in, journal_from, journal_of, noted, IsRefusedAppend}
use Rattle.amo_run_log.specs.Numbers.{read_all}

module _ {A : Type 0} (read : List ℕ → Option A) where
  read_none : (xs ys : List (List ℕ)) → read_all read xs ≡ None → read_all read (xs ++ ys) ≡ None
  read_none [] ys is = absurd (cc)
  read_none (x ∷ xs) ys is = by_first (read_none xs ys) (read x) is
    where
      by_rest : (read_all read xs ≡ None → read_all read (xs ++ ys) ≡ None) → (a : A) (o : Option (List A)) → read_all read xs ≡ o → option_map (λ more. a ∷ more) o ≡ None
          → option_map (λ more. a ∷ more) (read_all read (xs ++ ys)) ≡ None
      by_rest before a None rest none = ap (option_map (λ more. a ∷ more)) (before rest)
      by_rest before a (Some more) rest none = absurd (cc)

      by_first : (read_all read xs ≡ None → read_all read (xs ++ ys) ≡ None) → (o : Option A) → option_and_then (λ a. option_map (λ more. a ∷ more) (read_all read xs)) o ≡ None
          → option_and_then (λ a. option_map (λ more. a ∷ more) (read_all read (xs ++ ys))) o ≡ None
      by_first before None none = refl
      by_first before (Some a) none = by_rest before a (read_all read xs) refl none

  abbrev IsSplit : (xs ys : List (List ℕ)) → Type 0
  IsSplit xs ys = (some : List A) → read_all read xs ≡ Some some → read_all read (xs ++ ys) ≡ option_map (λ bs. some ++ bs) (read_all read ys)

  read_some : (xs ys : List (List ℕ)) (found : List A) → read_all read xs ≡ Some found → read_all read (xs ++ ys) ≡ option_map (λ bs. found ++ bs) (read_all read ys)
  read_some [] ys found is = let same : found ≡ [] = cc in same_none (read_all read ys) ∙ ap (λ (l : List A). option_map (λ bs. l ++ bs) (read_all read ys)) (sym same)
    where
      same_none : (o : Option (List A)) → o ≡ option_map (λ bs. [] ++ bs) o
      same_none None = refl
      same_none (Some bs) = refl
  read_some (x ∷ xs) ys found is = by_first (read_some xs ys) (read x) is
    where
      twice : (a : A) (more : List A) (o : Option (List A)) → option_map (λ ls. a ∷ ls) (option_map (λ bs. more ++ bs) o) ≡ option_map (λ bs. (a ∷ more) ++ bs) o
      twice a more None = refl
      twice a more (Some bs) = refl

      by_rest : IsSplit xs ys → (a : A) (o : Option (List A)) → read_all read xs ≡ o → option_map (λ more. a ∷ more) o ≡ Some found
          → option_map (λ more. a ∷ more) (read_all read (xs ++ ys)) ≡ option_map (λ bs. found ++ bs) (read_all read ys)
      by_rest before a None rest some = absurd (cc)
      by_rest before a (Some more) rest some =
          let same : a ∷ more ≡ found = cc in
          ap (option_map (λ ls. a ∷ ls)) (before more rest) ∙ twice a more (read_all read ys) ∙ ap (λ (l : List A). option_map (λ bs. l ++ bs) (read_all read ys)) same

      by_first : IsSplit xs ys → (o : Option A) → option_and_then (λ a. option_map (λ more. a ∷ more) (read_all read xs)) o ≡ Some found
          → option_and_then (λ a. option_map (λ more. a ∷ more) (read_all read (xs ++ ys))) o ≡ option_map (λ bs. found ++ bs) (read_all read ys)
      by_first before None some = absurd (cc)
      by_first before (Some a) some = by_rest before a (read_all read xs) refl some

journal_none : (count : ℕ) (from : List Attempt) (entries more : List Entry) → journal_from count from entries ≡ None → journal_from count from (entries ++ more) ≡ None
journal_none count from [] more is = absurd (cc)
journal_none count from (e ∷ entries) more is = by_case (λ next none. journal_none count next entries more none) (noted count from e) is
  where
    by_case : ((next : List Attempt) → journal_from count next entries ≡ None → journal_from count next (entries ++ more) ≡ None)
        → (o : Option (List Attempt)) → option_and_then (λ (next : List Attempt). journal_from count next entries) o ≡ None
        → option_and_then (λ (next : List Attempt). journal_from count next (entries ++ more)) o ≡ None
    by_case others None none = refl
    by_case others (Some next) none = others next none

module _ (count : ℕ) where
  abbrev says : Option (List Append) → Option (List Attempt)
  says o = option_and_then (λ (entries : List Entry). journal_of count entries) (option_map entries_of_appends o)

  none_on : (xs ys : List (List ℕ)) → attempts_in count xs ≡ None → attempts_in count (xs ++ ys) ≡ None
  none_on xs ys is = by_front (appends_in xs) refl is
    where
      by_back : (found : List Append) (o : Option (List Append)) → journal_of count (entries_of_appends found) ≡ None → says (option_map (λ bs. found ++ bs) o) ≡ None
      by_back found None none = refl
      by_back found (Some bs) none = ap (journal_of count) (flat_map-append entries_of_append found bs) ∙ journal_none count [] (entries_of_appends found) (entries_of_appends bs) none

      by_front : (o : Option (List Append)) → appends_in xs ≡ o → says o ≡ None → attempts_in count (xs ++ ys) ≡ None
      by_front None read none = ap says (read_none append_in xs ys read)
      by_front (Some found) read none = ap says (read_some append_in xs ys found read) ∙ by_back found (appends_in ys) none

  -- texts of which the first ones can't be read
  pub unread : (texts : List (List ℕ)) (n : ℕ) → attempts_in count (take n texts) ≡ None → attempts_in count texts ≡ None
  unread texts n is = subst (λ (ts : List (List ℕ)). attempts_in count ts ≡ None) (take-append-drop n texts) (none_on (take n texts) (drop n texts) is)

  -- the same by the reason why they aren't read
  pub unread_for : (texts : List (List ℕ)) (fault : Fault) (n : ℕ) → fault ≡ Refused n → IsRefusedAppend count texts fault → attempts_in count texts ≡ None
  unread_for texts Memory n is it = absurd (cc)
  unread_for texts (Refused m) n is it = unread texts m it.3
