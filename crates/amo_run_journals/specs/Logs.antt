-- Why a journal is read, or isn't.
use Rattle.std.specs.Prelude.{◌≡◌, ◌<◌, ◌≤◌, ◌+◌, ℕ, List, length, true, false, Option, Some, None}
use Rattle.amo_journal.specs.Appends.{IsDamagedAt, IsLog}
use Rattle.amo_journal.specs.Logs.{checksums_from}
use Rattle.amo_run_journals.specs.declared.logs.Unread.{Unread}
use Rattle.amo_run_journals.specs.declared.logs.Unread.TheVariants.{Memory, Damaged, Fewer, Other}
use Rattle.amo_run_files.specs.Counted.{counted as counted_view, is_kept}
use Rattle.amo_run_files.specs.declared.count.Count.{Count}

-- A journal with these checksums keeps what was counted, if something was.
abbrev pub IsKept : Option Count → List ℕ → List (List ℕ) → Type 0
IsKept None first checksums = Unit {0}
IsKept (Some count) first checksums = is_kept (counted_view count) first checksums ≡ true

-- A journal with these records keeps what was counted, if something was.
abbrev pub Keeps : Option Count → List ℕ → List (List ℕ) → Type 0
Keeps counted first records = IsKept counted first (checksums_from first records)

-- The reason is true of these checksums: there are fewer than were counted, or the last of those
-- that were counted is another one.
abbrev pub IsWhyLost : Unread → Option Count → List ℕ → List (List ℕ) → Type 0
IsWhyLost Memory counted first checksums = ⊥
IsWhyLost (Damaged number kind) counted first checksums = ⊥
IsWhyLost (Fewer has) counted first checksums = (count : Count) × (counted ≡ Some count) × (has ≡ length checksums) × (has < count.appends)
IsWhyLost Other counted first checksums =
    (count : Count) × (counted ≡ Some count) × (count.appends ≤ length checksums) × (is_kept (counted_view count) first checksums ≡ false)

-- The file is a journal with so many appends, fewer than were counted.
pub record HasFewer (has : ℕ) (count : Count) (first file : List ℕ) : Type 0 where
  pub records : List (List ℕ)
  pub log : IsLog first records file
  pub has_them : has ≡ length records
  pub fewer : has < count.appends

-- The file is a journal with as many appends as were counted, and the last of those is another one.
pub record HasOther (count : Count) (first file : List ℕ) : Type 0 where
  pub records : List (List ℕ)
  pub log : IsLog first records file
  pub many : count.appends ≤ length records
  pub other : is_kept (counted_view count) first (checksums_from first records) ≡ false

-- the reason says of the file why it isn't read; out of memory says nothing
abbrev pub IsWhyUnread : Unread → Option Count → List ℕ → List ℕ → Type 0
IsWhyUnread Memory counted first file = Unit {0}
IsWhyUnread (Damaged number kind) counted first file = (records : List (List ℕ)) × (number ≡ length records + 1) × IsDamagedAt first records kind file
IsWhyUnread (Fewer has) counted first file = (count : Count) × (counted ≡ Some count) × HasFewer has count first file
IsWhyUnread Other counted first file = (count : Count) × (counted ≡ Some count) × HasOther count first file
