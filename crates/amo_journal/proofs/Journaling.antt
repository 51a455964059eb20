-- Appends and recoveries leave files with these appends.
use Rattle.std.proofs.Common.{◌≡◌, ◌⊎◌, inl, inr, ⊎_elim, ℕ, List, [], ◌∷◌, ◌++◌, length, refl, sym, ◌∙◌, ap, subst, arith, length-append}
use Rattle.amo_journal.specs.Appends.{IsLog, checksum_after, line_of, lines_from, next_checksum, records_in}
use Rattle.amo_journal.specs.Device.{LeavesOnly}
use Rattle.amo_journal.specs.Journal.{HasAllOrAllButLast, HasAllOrNotTheLast, HasOneMoreOrNot, IsBeforeOrAfter, IsRecovered, IsWhole}
use Rattle.amo_journal.specs.Logs.{checksums_from}
use Rattle.amo_journal.specs.declared.journal.Journal.{Journal}
use Rattle.amo_journal.specs.Texts.{AreOneLine, IsOneLine, at_rest, texts_in}
use Rattle.amo_journal.proofs.Blocks.{all_push}
use Rattle.amo_journal.proofs.Logs.{is_log, lines_from-push}
use Rattle.amo_journal.proofs.Moments.{leaves_weaker, started}
use Rattle.amo_journal.proofs.Parts.{texts_are_one_line}
use Rattle.amo_journal.proofs.Whole.{whole_of}

-- what leaves both
pub both_leave : {D : Type 0} (moment : D → ℕ) (left_since : D → ℕ → List ℕ → Type 0) (old new : D) (P Q : List ℕ → Type 0) → LeavesOnly moment left_since old new P → LeavesOnly moment left_since old new Q
    → LeavesOnly moment left_since old new (λ c. P c × Q c)
both_leave moment left_since old new P Q p q = record {
  later = p.later;
  each = λ c left. (p.each c left, q.each c left);
  before = λ t c le left. ⊎_elim (λ past. inl past) (λ pc. ⊎_elim (λ past. inl past) (λ qc. inr (pc, qc)) (q.before t c le left)) (p.before t c le left);
}

-- the last of some lines, and the records of those before
lines_split : (checksum : List ℕ) (all ls : List (List ℕ)) (last : List ℕ) → lines_from checksum all ≡ ls ++ last ∷ [] → (before : List (List ℕ)) × (records : List ℕ) × (all ≡ before ++ records ∷ []) × (ls ≡ lines_from checksum before)
lines_split checksum [] ls last is = absurd (omega (arith, ap length is, length-append ls (last ∷ [])))
lines_split checksum (r ∷ []) [] last is = ([], r, refl, refl)
lines_split checksum (r ∷ []) (l ∷ ls) last is = absurd (omega (arith, ap length is, length-append ls (last ∷ [])))
lines_split checksum (r ∷ s ∷ all) [] last is = absurd (omega (arith, ap length is))
lines_split checksum (r ∷ s ∷ all) (l ∷ ls) last is =
    let head : line_of checksum r ≡ l = cc is in
    let tail : lines_from (next_checksum checksum r) (s ∷ all) ≡ ls ++ last ∷ [] = cc is in
    let rest = lines_split (next_checksum checksum r) (s ∷ all) ls last tail in
    (r ∷ rest.0, rest.1, ap (λ (rs : List (List ℕ)). r ∷ rs) rest.2, ap (λ (ms : List (List ℕ)). l ∷ ms) rest.3 ∙ ap (λ (m : List ℕ). m ∷ lines_from (next_checksum checksum r) rest.0) (sym head))

-- a whole file with all of these lines, or all but the last one, has the appends
pub has_all : (checksum : List ℕ) (all : List (List ℕ)) (file : List ℕ) → AreOneLine all → IsWhole file → HasAllOrAllButLast (lines_from checksum all) file → HasAllOrNotTheLast checksum all file
has_all checksum all file one whole (inl is) = inl (is_log checksum all file one whole is)
has_all checksum all file one whole (inr (last, is)) =
    let split = lines_split checksum all (texts_in file) last is in
    inr (split.0, split.1, split.2, is_log checksum split.0 file (before_one_line split.0 split.1 (subst AreOneLine split.2 one)) whole split.3)
  where
    before_one_line : (before : List (List ℕ)) (last : List ℕ) → AreOneLine (before ++ last ∷ []) → AreOneLine before
    before_one_line [] last one = tt
    before_one_line (r ∷ before) last one = (one.0, before_one_line before last one.1)

-- the lines with that of one append more
pub more_lines : (first last : List ℕ) (all : List (List ℕ)) (records line : List ℕ) (texts : List (List ℕ)) → last ≡ checksum_after first all → line ≡ line_of last records → texts ≡ lines_from first all
    → texts ++ line ∷ [] ≡ lines_from first (all ++ records ∷ [])
more_lines first last all records line texts last_is line_is are =
    ap (λ (ts : List (List ℕ)). ts ++ line ∷ []) are ∙ ap (λ (l : List ℕ). lines_from first all ++ l ∷ []) (line_is ∙ ap (λ (d : List ℕ). line_of d records) last_is) ∙ sym (lines_from-push first all records)

-- a whole file of these lines, with one more or without it
pub has_one_more : (first last : List ℕ) (all : List (List ℕ)) (records line : List ℕ) (texts : List (List ℕ)) (file : List ℕ) → AreOneLine all → IsOneLine records → last ≡ checksum_after first all → line ≡ line_of last records
    → texts ≡ lines_from first all → IsBeforeOrAfter texts line file × IsWhole file → HasOneMoreOrNot first all records file
has_one_more first last all records line texts file one one_line last_is line_is are (inl is, whole) = inl (is_log first all file one whole (is ∙ are))
has_one_more first last all records line texts file one one_line last_is line_is are (inr is, whole) =
    inr (is_log first (all ++ records ∷ []) file (all_push all records one one_line) whole (is ∙ more_lines first last all records line texts last_is line_is are))

-- a file at rest is whole
pub rest_whole : (texts : List (List ℕ)) (file : List ℕ) → AreOneLine texts → file ≡ at_rest texts → IsWhole file
rest_whole texts file all is = whole_of texts (45 ∷ []) file all is (λ (same : 45 ≡ 43). omega (arith, same))

-- the last checksum of some appends
pub last_checksum : (checksum : List ℕ) (all : List (List ℕ)) → ((checksums_from checksum all ≡ []) × (checksum_after checksum all ≡ checksum)) ⊎ ((before : List (List ℕ)) × (checksums_from checksum all ≡ before ++ checksum_after checksum all ∷ []))
last_checksum checksum [] = inl (refl, refl)
last_checksum checksum (r ∷ all) = ⊎_elim
    (λ none. inr ([], ap (λ (cs : List (List ℕ)). next_checksum checksum r ∷ cs) none.0 ∙ ap (λ (d : List ℕ). d ∷ []) (sym none.1)))
    (λ some. inr (next_checksum checksum r ∷ some.0, ap (λ (cs : List (List ℕ)). next_checksum checksum r ∷ cs) some.1))
    (last_checksum (next_checksum checksum r) all)

module _ {D : Type 0} (moment : D → ℕ) (left_since : D → ℕ → List ℕ → Type 0) (seen : D → List ℕ) (may_leave : D → List ℕ → Type 0) (stale : D → ℕ → Type 0) (journal : Journal D) (so_far : IsRecovered seen may_leave stale journal) where
  pub recovered_log : IsLog journal.first.digits (records_in (seen journal.device)) (seen journal.device)
  recovered_log = is_log journal.first.digits (records_in (seen journal.device)) (seen journal.device) so_far.one_line
      (rest_whole (texts_in (seen journal.device)) (seen journal.device) (texts_are_one_line (seen journal.device)) so_far.file.file) so_far.chained

  -- nothing was done
  pub nothing_done : (records : List ℕ) → ((f : List ℕ) → left_since journal.device (moment journal.device) f → may_leave journal.device f)
      → LeavesOnly moment left_since journal.device journal.device (HasOneMoreOrNot journal.first.digits (records_in (seen journal.device)) records)
  nothing_done records now = started moment left_since journal.device _
      (λ f left. inl (subst (IsLog journal.first.digits (records_in (seen journal.device))) (sym (so_far.file.durable f (now f left))) recovered_log))

  -- a line was added
  pub added : (new : D) (records line : List ℕ) → IsOneLine records → line ≡ line_of journal.last.digits records
      → LeavesOnly moment left_since journal.device new (IsBeforeOrAfter (texts_in (seen journal.device)) line) → LeavesOnly moment left_since journal.device new IsWhole
      → LeavesOnly moment left_since journal.device new (HasOneMoreOrNot journal.first.digits (records_in (seen journal.device)) records)
  added new records line one_line line_is texts whole =
      leaves_weaker moment left_since journal.device new _ _ (both_leave moment left_since journal.device new _ _ texts whole)
      (λ f both. has_one_more journal.first.digits journal.last.digits (records_in (seen journal.device)) records line (texts_in (seen journal.device)) f so_far.one_line one_line so_far.last line_is so_far.chained both)

  pub added_read : (file records line : List ℕ) → IsOneLine records → line ≡ line_of journal.last.digits records → IsBeforeOrAfter (texts_in (seen journal.device)) line file → IsWhole file
      → HasOneMoreOrNot journal.first.digits (records_in (seen journal.device)) records file
  added_read file records line one_line line_is texts whole =
      has_one_more journal.first.digits journal.last.digits (records_in (seen journal.device)) records line (texts_in (seen journal.device)) file so_far.one_line one_line so_far.last line_is so_far.chained (texts, whole)

  -- the line is there
  pub added_lines : (file records line : List ℕ) → line ≡ line_of journal.last.digits records → texts_in file ≡ texts_in (seen journal.device) ++ line ∷ []
      → texts_in file ≡ lines_from journal.first.digits (records_in (seen journal.device) ++ records ∷ [])
  added_lines file records line line_is is = is ∙ more_lines journal.first.digits journal.last.digits (records_in (seen journal.device)) records line (texts_in (seen journal.device)) so_far.last line_is so_far.chained
