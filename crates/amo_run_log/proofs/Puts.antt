-- The entries or findings of a file before a put and after it, and the lines that its entries
-- close.
use Rattle.std.proofs.Common.{◌≡◌, ◌⊎◌, inl, inr, ⊎_elim, ℕ, ◌+◌, ◌^◌, ◌<◌, false, List, [], ◌∷◌, ◌++◌, length, Option, Some, Result, Ok, Err, refl, sym, ap, subst, ◌∙◌, arith}
use Rattle.std.specs.Prelude.{codes, option_map, OnOk}
use Rattle.std.specs.Fmt.{decimal}
use Rattle.amo_journal.specs.Device.{LeavesOnly}
use Rattle.amo_journal.specs.Journal.{HasOneMoreOrNot}
use Rattle.amo_journal.proofs.Logs.{log_records}
use Rattle.amo_journal.specs.Appends.{records_in}
use Rattle.amo_run_log.specs.declared.append.Append.{Append}
use Rattle.amo_run_log.specs.declared.entry.Entry.{Entry}
use Rattle.amo_run_log.specs.declared.finding.Finding.{Finding}
use Rattle.amo_run_log.specs.declared.finding.Resolution.{Resolution}
use Rattle.amo_run_log.specs.declared.finding.Resolution.TheVariants.{Done as Found, NotDone}
use Rattle.amo_run_log.specs.declared.journal.Attempt.{Attempt}
use Rattle.amo_run_log.specs.Entries.{append_in, appends_in, entries_of_append, entries_of_appends}
use Rattle.amo_run_log.specs.Findings.{word_of, text_of_finding, FitsFinding, is_undone}
use Rattle.amo_run_log.specs.Numbers.{read_all}
use Rattle.amo_run_log.specs.Open.{HasIntent, NoneOpens}
use Rattle.amo_run_log.specs.Puts.{entries_of, StandsForMoreOrNot, IsClosedIn}
use Rattle.amo_run_log.proofs.AppendTexts.{entries_more, map_some}
use Rattle.amo_run_log.proofs.ClosingWins.{closed_with, has_after, has_more}
use Rattle.amo_run_log.proofs.TextLists.{one_more}
use Rattle.amo_run_log.proofs.Words.{Lacks, lacks_append, lacks_by_test, decimal_lacks}

-- the text of a finding is one line

three_lack : (a b c : ℕ) → a < 2 ^ 64 → b < 2 ^ 64 → c < 2 ^ 64 → Lacks 10 (decimal a ++ 32 ∷ (decimal b ++ 32 ∷ decimal c))
three_lack a b c fa fb fc =
    lacks_append 10 (decimal a) (32 ∷ (decimal b ++ 32 ∷ decimal c)) (decimal_lacks 10 a (omega arith) fa)
    ((λ e. omega arith), lacks_append 10 (decimal b) (32 ∷ decimal c) (decimal_lacks 10 b (omega arith) fb) ((λ e. omega arith), decimal_lacks 10 c (omega arith) fc))

word_lacks : (v : Resolution) → Lacks 10 (word_of v)
word_lacks Found = lacks_by_test 10 (codes "done") refl
word_lacks NotDone = lacks_by_test 10 (codes "not-done") refl

pub one_line_of_finding : (f : Finding) → FitsFinding f → Lacks 10 (text_of_finding f)
one_line_of_finding f fits =
    lacks_append 10 (word_of f.verdict) (32 ∷ (decimal f.worker ++ 32 ∷ (decimal f.serial ++ 32 ∷ decimal f.time))) (word_lacks f.verdict)
    ((λ e. omega arith), three_lack f.worker f.serial f.time fits.0 fits.1 fits.2)

-- what a file says, whatever its texts are read as

pub on_ok : {T E : Type 0} {P Q : Type 0} (r : Result T E) → OnOk r P → (P → Q) → OnOk r Q
on_ok (Ok x) p follows = follows p
on_ok (Err e) p follows = tt

-- what a crash leaves has what follows from what it has
pub leaves : {D : Type 0} (moment : D → ℕ) (left_since : D → ℕ → List ℕ → Type 0) (old new : D) (P Q : List ℕ → Type 0) → LeavesOnly moment left_since old new P → ((c : List ℕ) → P c → Q c) → LeavesOnly moment left_since old new Q
leaves moment left_since old new P Q l follows = record {
  later = l.later;
  each = λ c left. follows c (l.each c left);
  before = λ t c le left. ⊎_elim (λ past. inl past) (λ p. inr (follows c p)) (l.before t c le left);
}

says_one_more : {A : Type 0} (read : List ℕ → Option A) (old new text : List ℕ) (xs : List A) (x : A)
    → read text ≡ Some x → read_all read (records_in old) ≡ Some xs → records_in new ≡ records_in old ++ text ∷ [] → read_all read (records_in new) ≡ Some (xs ++ x ∷ [])
says_one_more read old new text xs x is are put = ap (read_all read) put ∙ one_more read (records_in old) xs text x are is

before_or_after : {A : Type 0} (first : List ℕ) (read : List ℕ → Option A) (old text : List ℕ) (xs : List A) (x : A)
    → read text ≡ Some x → read_all read (records_in old) ≡ Some xs → (c : List ℕ) → HasOneMoreOrNot first (records_in old) text c
    → (read_all read (records_in c) ≡ Some xs) ⊎ (read_all read (records_in c) ≡ Some (xs ++ x ∷ []))
before_or_after first read old text xs x is are c at = ⊎_elim
    (λ before. inl (ap (read_all read) (log_records first (records_in old) c before) ∙ are))
    (λ after. inr (says_one_more read old c text xs x is are (log_records first (records_in old ++ text ∷ []) c after))) at

-- what a put of one text comes to, for who reads the texts so
pub record PutsOne {A D T E : Type 0} (read_as : List ℕ → Option A) (moment : D → ℕ) (left_since : D → ℕ → List ℕ → Type 0) (seen : D → List ℕ) (old new : D) (result : Result T E) (x : A) : Type 0 where
  pub acknowledged : (xs : List A) → read_all read_as (records_in (seen old)) ≡ Some xs → OnOk result (read_all read_as (records_in (seen new)) ≡ Some (xs ++ x ∷ []))
  pub any_moment : (xs : List A) → read_all read_as (records_in (seen old)) ≡ Some xs
      → LeavesOnly moment left_since old new (λ c. (read_all read_as (records_in c) ≡ Some xs) ⊎ (read_all read_as (records_in c) ≡ Some (xs ++ x ∷ [])))
  pub read : (xs : List A) → read_all read_as (records_in (seen old)) ≡ Some xs
      → (read_all read_as (records_in (seen new)) ≡ Some xs) ⊎ (read_all read_as (records_in (seen new)) ≡ Some (xs ++ x ∷ []))

pub puts_one : {A D T E : Type 0} (first : List ℕ) (read_as : List ℕ → Option A) (moment : D → ℕ) (left_since : D → ℕ → List ℕ → Type 0) (seen : D → List ℕ) (old new : D) (result : Result T E) (text : List ℕ) (x : A)
    → read_as text ≡ Some x → OnOk result (records_in (seen new) ≡ records_in (seen old) ++ text ∷ []) → LeavesOnly moment left_since old new (HasOneMoreOrNot first (records_in (seen old)) text)
    → HasOneMoreOrNot first (records_in (seen old)) text (seen new) → PutsOne read_as moment left_since seen old new result x
puts_one first read_as moment left_since seen old new result text x is put run now = record {
  acknowledged = λ xs are. on_ok result put (says_one_more read_as (seen old) (seen new) text xs x is are);
  any_moment = λ xs are. leaves moment left_since old new (HasOneMoreOrNot first (records_in (seen old)) text) _ run (before_or_after first read_as (seen old) text xs x is are);
  read = λ xs are. before_or_after first read_as (seen old) text xs x is are (seen new) now;
}

-- the same of entries: what a put of an append comes to
pub record PutsAppend {D T E : Type 0} (moment : D → ℕ) (left_since : D → ℕ → List ℕ → Type 0) (seen : D → List ℕ) (old new : D) (result : Result T E) (append : Append) : Type 0 where
  pub acknowledged : (entries : List Entry) → entries_of (seen old) ≡ Some entries → OnOk result (entries_of (seen new) ≡ Some (entries ++ entries_of_append append))
  pub any_moment : (entries : List Entry) → entries_of (seen old) ≡ Some entries → LeavesOnly moment left_since old new (StandsForMoreOrNot entries (entries_of_append append))
  pub read : (entries : List Entry) → entries_of (seen old) ≡ Some entries → StandsForMoreOrNot entries (entries_of_append append) (seen new)

module _ (file : List ℕ) (xs : List Append) (entries : List Entry) (append : Append) (is : entries_of_appends xs ≡ entries) where
  says_more : read_all append_in (records_in file) ≡ Some (xs ++ append ∷ []) → entries_of file ≡ Some (entries ++ entries_of_append append)
  says_more are = ap (option_map entries_of_appends) are ∙ ap (λ l. Some l) (entries_more xs append ∙ ap (λ l. l ++ entries_of_append append) is)

  says_same : read_all append_in (records_in file) ≡ Some xs → entries_of file ≡ Some entries
  says_same are = ap (option_map entries_of_appends) are ∙ ap (λ l. Some l) is

  stands : (read_all append_in (records_in file) ≡ Some xs) ⊎ (read_all append_in (records_in file) ≡ Some (xs ++ append ∷ [])) → StandsForMoreOrNot entries (entries_of_append append) file
  stands either = ⊎_elim (λ same. inl (says_same same)) (λ more. inr (says_more more)) either

pub puts_append : {D T E : Type 0} (moment : D → ℕ) (left_since : D → ℕ → List ℕ → Type 0) (seen : D → List ℕ) (old new : D) (result : Result T E) (append : Append)
    → PutsOne append_in moment left_since seen old new result append → PutsAppend moment left_since seen old new result append
puts_append moment left_since seen old new result append one = record {
  acknowledged = λ entries are. let (xs, read, is) = map_some entries_of_appends (appends_in (records_in (seen old))) entries are in on_ok result (one.acknowledged xs read) (says_more (seen new) xs entries append is);
  any_moment = λ entries are.
      let (xs, read, is) = map_some entries_of_appends (appends_in (records_in (seen old))) entries are in
      leaves moment left_since old new _ (StandsForMoreOrNot entries (entries_of_append append)) (one.any_moment xs read) (λ c. stands c xs entries append is);
  read = λ entries are. let (xs, read, is) = map_some entries_of_appends (appends_in (records_in (seen old))) entries are in stands (seen new) xs entries append is (one.read xs read);
}

-- if nothing was done, only what might have been left before
pub started : {D : Type 0} (moment : D → ℕ) (left_since : D → ℕ → List ℕ → Type 0) (file : D) (P : List ℕ → Type 0) → ((c : List ℕ) → left_since file (moment file) c → P c) → LeavesOnly moment left_since file file P
started moment left_since file P now = record { later = omega arith; each = now; before = λ t c le left. inl left }

same_some : (xs ys : List Entry) → Some xs ≡ Some ys → xs ≡ ys
same_some xs ys e = cc

-- a file of the entries, with others after them or without, has the line closed
pub law_crash : (count : ℕ) (findings : List Finding) (line : ℕ) (before after : List (List Attempt)) (s : ℕ) (entries more : List Entry)
    → HasIntent s line entries → NoneOpens s more → is_undone findings (length before + 1) s ≡ false → (c : List ℕ) → StandsForMoreOrNot entries more c → IsClosedIn count findings before after line c
law_crash count findings line before after s entries more has opens f c stands read es reads h =
    ⊎_elim
    (λ same. closed_with count findings line before after s read (subst (λ (ls : List Entry). HasIntent s line ls) (same_some entries read (sym same ∙ reads)) has) f es h)
    (λ all. closed_with count findings line before after s read (subst (λ (ls : List Entry). HasIntent s line ls) (same_some (entries ++ more) read (sym all ∙ reads)) (has_more count findings line s entries more has opens)) f es h)
    stands

-- so has one of the entries and others with the intent
pub law_put : (count : ℕ) (findings : List Finding) (line : ℕ) (before after : List (List Attempt)) (s : ℕ) (entries more : List Entry)
    → HasIntent s line more → is_undone findings (length before + 1) s ≡ false → (c : List ℕ) → entries_of c ≡ Some (entries ++ more) → IsClosedIn count findings before after line c
law_put count findings line before after s entries more has f c stands read es reads h =
    closed_with count findings line before after s read (subst (λ (ls : List Entry). HasIntent s line ls) (same_some (entries ++ more) read (sym stands ∙ reads)) (has_after count findings line s entries more has)) f es h

pub on_ok_both : {T E : Type 0} {P Q R : Type 0} (r : Result T E) → OnOk r P → OnOk r Q → (P → Q → R) → OnOk r R
on_ok_both (Ok x) p q follows = follows p q
on_ok_both (Err e) p q follows = tt
