-- The attempts of all journals, and an index of them by line.
use Rattle.std.specs.Prelude.{slice_get, slice_set, slice_index_or, ◌≡◌, ◌≤◌, ◌-◌, ◌==◌, ◌&&◌, ℕ, zero, suc, Bool, true, false, List, [], length, Option, Some, None}
use Rattle.std.specs.List.{list_any}
use Rattle.amo_run_log.specs.declared.clearance.AttemptId.{AttemptId}
use Rattle.amo_run_log.specs.declared.entry.Entry.{Entry}
use Rattle.amo_run_log.specs.declared.entry.Entry.TheVariants.{Intent, Answer as Answered}
use Rattle.amo_run_log.specs.declared.journal.Attempt.{Attempt}
use Rattle.amo_run_log.specs.Clearance.{IsAttempt, IsBefore}
use Rattle.amo_run_log.specs.Journals.{is_line, noted}

-- Whether it is the attempt of this worker and serial number.
abbrev pub is_id : ℕ → ℕ → AttemptId → Bool
is_id worker serial id = (id.worker == worker) && (id.serial == serial)

-- The attempts that are listed for a line. Those for the line k + 1 stand at k.
abbrev pub listed : List (List AttemptId) → ℕ → List AttemptId
listed lines zero = []
listed lines (suc k) = slice_index_or lines k []

-- The attempt of this worker and serial number is listed for the line.
abbrev pub IsListed : List (List AttemptId) → ℕ → ℕ → ℕ → Type 0
IsListed lines line worker serial = list_any (is_id worker serial) (listed lines line) ≡ true

-- Each attempt is listed for its line.
abbrev pub IsIndex : List (List AttemptId) → List (List Attempt) → Type 0
IsIndex lines journals = (line worker serial : ℕ) (e : Attempt) → IsAttempt journals line worker serial e → IsListed lines line worker serial

-- An intent of this worker is listed for its line, if that is one of the lines that there are.
abbrev pub ListsIntent : List (List AttemptId) → ℕ → Entry → Type 0
ListsIntent lines worker (Intent serial line time) = is_line (length lines) line ≡ true → IsListed lines line worker serial
ListsIntent lines worker (Answered serial answer) = Unit {0}

-- An attempt was found that doesn't come after that of this worker and serial number.
abbrev pub IsFrom : Option AttemptId → ℕ → ℕ → Type 0
IsFrom None worker serial = ⊥
IsFrom (Some first) worker serial = IsBefore first worker serial → ⊥

-- A call that says whether it noted an entry of this worker has made `new` of the journals `old`.
-- The worker's journal has the entry, and the others are as before. Or the worker has no journal,
-- or its journal can't have the entry; then all are as before.
abbrev pub NotesIn : ℕ → Bool → List (List Attempt) → ℕ → Entry → List (List Attempt) → Type 0
NotesIn count true old worker entry new =
    (1 ≤ worker) × (es : List Attempt) × (next : List Attempt) × (slice_get old (worker - 1) ≡ Some es) × (noted count es entry ≡ Some next) × (new ≡ slice_set old (worker - 1) next)
NotesIn count false old worker entry new =
    (new ≡ old) × ((es : List Attempt) → 1 ≤ worker → slice_get old (worker - 1) ≡ Some es → noted count es entry ≡ None)
