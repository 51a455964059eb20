-- The contracts of journals on a device's file, for a list of entries.
use Rattle.amo_run_log.specs.Entries.{append_in, appends_in, entries_in, entries_of_append, entries_of_appends}
use Rattle.amo_run_log.specs.Numbers.{read_all}
use Rattle.amo_journal.specs.Appends.{IsLog, records_in}
use Rattle.std.proofs.lemmas.Option.{none-some, same_Some, option_and_then_some}
use Rattle.std.specs.Prelude.{option_and_then, option_map}
use Rattle.std.proofs.Common.{◌≡◌, ◌⊎◌, inl, inr, ⊎_elim, ℕ, List, [], ◌∷◌, ◌++◌, length, take, Option, Some, None, refl, sym, ap, ◌∙◌, append-nil}
use Rattle.amo_journal.specs.Journal.{IsAtRest, HasAllOrNotTheLast}
use Rattle.amo_journal.proofs.Logs.{log_records}
use Rattle.amo_run_log.specs.declared.append.Append.{Append}
use Rattle.amo_run_log.specs.declared.entry.Entry.{Entry}
use Rattle.amo_run_log.proofs.AppendTexts.{entries_more}
use Rattle.amo_run_log.specs.declared.finding.Finding.{Finding}
use Rattle.amo_run_log.specs.Puts.{entries_of, findings_of, StandsForMoreOrNot, SaysOneMoreOrNot}
use Rattle.amo_run_safety.specs.File.{read_of, with_unheard, with_unread, after_stop}
use Rattle.amo_run_safety.specs.Shown.{all_kept, IsShownBy}

kept_read : {A : Type 0} (xs : List A) → xs ≡ read_of (after_stop 0 (all_kept xs))
kept_read xs = sym (append-nil (xs ++ []) ∙ append-nil xs)

pub rest_shown : {D : Type 0} (seen : D → List ℕ) (may_leave : D → List ℕ → Type 0) (stale : D → ℕ → Type 0) (device : D) (es : List Entry)
    → IsAtRest seen may_leave stale device → entries_of (seen device) ≡ Some es → IsShownBy seen may_leave device (all_kept es)
rest_shown seen may_leave stale device es rest says = record {
  read = says ∙ ap (λ l. Some l) (sym (append-nil es));
  left = λ c may. (0, ap entries_of (rest.durable c may) ∙ says ∙ ap (λ l. Some l) (kept_read es));
}

-- after a put of any entries none of them is there, or all of them

take_whole : {A : Type 0} (ys : List A) → take (length ys) ys ≡ ys
take_whole [] = refl
take_whole (y ∷ ys) = ap (λ l. y ∷ l) (take_whole ys)

none_there : {A : Type 0} (xs more : List A) → xs ≡ read_of (after_stop 0 (with_unheard (all_kept xs) more))
none_there xs more = sym (append-nil (xs ++ []) ∙ append-nil xs)

all_there : {A : Type 0} (xs more : List A) → xs ++ more ≡ read_of (after_stop (length more) (with_unheard (all_kept xs) more))
all_there xs more = sym (append-nil (xs ++ take (length more) (more ++ [])) ∙ ap (λ l. xs ++ take (length more) l) (append-nil more) ∙ ap (λ l. xs ++ l) (take_whole more))

pub put_shown : (es more : List Entry) (c : List ℕ) → StandsForMoreOrNot es more c → (n : ℕ) × (entries_of c ≡ Some (read_of (after_stop n (with_unheard (all_kept es) more))))
put_shown es more c h = ⊎_elim
    (λ (none : entries_of c ≡ Some es). (0, none ∙ ap (λ l. Some l) (none_there es more)))
    (λ (all : entries_of c ≡ Some (es ++ more)). (length more, all ∙ ap (λ l. Some l) (all_there es more)))
    h

pub finding_shown : (fs : List Finding) (f : Finding) (c : List ℕ) → SaysOneMoreOrNot fs f c → (n : ℕ) × (findings_of c ≡ Some (read_of (after_stop n (with_unheard (all_kept fs) (f ∷ [])))))
finding_shown fs f c h = ⊎_elim
    (λ (none : findings_of c ≡ Some fs). (0, none ∙ ap (λ l. Some l) (none_there fs (f ∷ []))))
    (λ (one : findings_of c ≡ Some (fs ++ f ∷ [])). (1, one ∙ ap (λ l. Some l) (all_there fs (f ∷ []))))
    h

-- once a put has ended, whatever its outcome

unread_left : {A : Type 0} (xs more : List A)
    → (xs ≡ read_of (after_stop 0 (with_unread (all_kept xs) more))) × (xs ++ more ≡ read_of (after_stop (length more) (with_unread (all_kept xs) more)))
unread_left xs more = (sym (append-nil (xs ++ []) ∙ append-nil xs), sym (append-nil (xs ++ take (length more) more) ∙ ap (λ l. xs ++ l) (take_whole more)))

pub ended_shown : {D : Type 0} (seen : D → List ℕ) (may_leave : D → List ℕ → Type 0) (device : D) (es more : List Entry)
    → StandsForMoreOrNot es more (seen device) → ((c : List ℕ) → may_leave device c → StandsForMoreOrNot es more c)
    → IsShownBy seen may_leave device (with_unread (all_kept es) more) ⊎ IsShownBy seen may_leave device (with_unheard (all_kept es) more)
ended_shown seen may_leave device es more read left = ⊎_elim
    (λ (none : entries_of (seen device) ≡ Some es). inl (record {
      read = none ∙ ap (λ l. Some l) (sym (append-nil es));
      left = λ c may. ⊎_elim
          (λ (a : entries_of c ≡ Some es). (0, a ∙ ap (λ l. Some l) (unread_left es more).0))
          (λ (a : entries_of c ≡ Some (es ++ more)). (length more, a ∙ ap (λ l. Some l) (unread_left es more).1))
          (left c may);
    }))
    (λ (all : entries_of (seen device) ≡ Some (es ++ more)). inr (record { read = all; left = λ c may. put_shown es more c (left c may) }))
    read

-- while a journal is settled

-- what is read of texts begins with what is read of all but the last
read_front : {A : Type 0} (read : List ℕ → Option A) (texts : List (List ℕ)) (text : List ℕ) (all : List A) → read_all read (texts ++ text ∷ []) ≡ Some all
    → (xs : List A) × (x : A) × (read_all read texts ≡ Some xs) × (all ≡ xs ++ x ∷ [])
read_front read [] text all h = option_and_then_some (λ x. Some (x ∷ [])) (read text) all h (λ x is same. ([], x, refl, sym (same_Some (x ∷ []) all same)))
read_front {A} read (t ∷ texts) text all h = option_and_then_some (λ x. option_map (λ xs. x ∷ xs) (read_all read (texts ++ text ∷ []))) (read t) all h
    (λ x is rest. by x is (read_all read (texts ++ text ∷ [])) (λ ys at. read_front read texts text ys at) rest)
  where
    by : (x : A) → read t ≡ Some x → (o : Option (List A)) → ((ys : List A) → o ≡ Some ys → (xs : List A) × (y : A) × (read_all read texts ≡ Some xs) × (ys ≡ xs ++ y ∷ []))
        → option_map (λ xs. x ∷ xs) o ≡ Some all → (xs : List A) × (y : A) × (read_all read (t ∷ texts) ≡ Some xs) × (all ≡ xs ++ y ∷ [])
    by x is None rest_front rest = absurd (none-some all rest)
    by x is (Some ys) rest_front rest =
        let (some, last, are, split) = rest_front ys refl in (
          x ∷ some,
          last,
          ap (λ o. option_and_then (λ y. option_map (λ zs. y ∷ zs) (read_all read texts)) o) is ∙ ap (option_map (λ zs. x ∷ zs)) are,
          sym (same_Some (x ∷ ys) all rest) ∙ ap (λ zs. x ∷ zs) split,
        )

-- all but the last
abbrev front : {A : Type 0} → List A → List A
front [] = []
front (z ∷ []) = []
front (z ∷ u ∷ us) = z ∷ front (u ∷ us)

front_of : {A : Type 0} (zs : List A) (z : A) → front (zs ++ z ∷ []) ≡ zs
front_of [] z = refl
front_of (u ∷ []) z = refl
front_of (u ∷ v ∷ vs) z = ap (λ l. u ∷ l) (front_of (v ∷ vs) z)

last_off : {A : Type 0} (xs ys : List A) (x y : A) → xs ++ x ∷ [] ≡ ys ++ y ∷ [] → xs ≡ ys
last_off xs ys x y e = sym (front_of xs x) ∙ ap front e ∙ front_of ys y

pub settling_shown : (first : List ℕ) (all : List (List ℕ)) (seen : List ℕ) (appends : List Append) (a : Append) (c : List ℕ) → IsLog first all seen
    → appends_in (records_in seen) ≡ Some (appends ++ a ∷ []) → HasAllOrNotTheLast first all c
    → (n : ℕ) × (entries_of c ≡ Some (read_of (after_stop n (with_unheard (all_kept (entries_of_appends appends)) (entries_of_append a)))))
settling_shown first all seen appends a c log says left =
    let seen_is : records_in seen ≡ all = log_records first all seen log in
    let entries = entries_of_appends appends in
    let more = entries_of_append a in
    ⊎_elim
    (λ (same : IsLog first all c). put_shown entries more c (inr (
    ap (λ (rs : List (List ℕ)). option_map entries_of_appends (appends_in rs)) (log_records first all c same ∙ sym seen_is)
    ∙ ap (option_map entries_of_appends) says ∙ ap (λ l. Some l) (entries_more appends a))))
    (λ (most : (before : List (List ℕ)) × (last : List ℕ) × (all ≡ before ++ last ∷ []) × IsLog first before c).
    let split_is : records_in seen ≡ records_in c ++ most.1 ∷ [] = seen_is ∙ most.2 ∙ ap (λ (rs : List (List ℕ)). rs ++ most.1 ∷ []) (sym (log_records first most.0 c most.3)) in
    let (xs, y, are, split) = read_front append_in (records_in c) most.1 (appends ++ a ∷ []) (ap appends_in (sym split_is) ∙ says) in
    put_shown entries more c (inl (ap (option_map entries_of_appends) are ∙ ap (λ l. Some (entries_of_appends l)) (sym (last_off appends xs a y split)))))
    left

pub kept_settling_shown : (first : List ℕ) (all : List (List ℕ)) (seen : List ℕ) (es : List Entry) (c : List ℕ) → IsLog first all seen → entries_of seen ≡ Some es → IsLog first all c
    → (n : ℕ) × (entries_of c ≡ Some (read_of (after_stop n (all_kept es))))
kept_settling_shown first all seen es c log says same =
    (0, ap entries_in (log_records first all c same ∙ sym (log_records first all seen log)) ∙ says ∙ ap (λ l. Some l) (kept_read es))
