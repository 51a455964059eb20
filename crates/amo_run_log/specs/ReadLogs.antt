-- The contents of answers and journals, as far as they were read, once more of them is read.
use Rattle.std.specs.Prelude.{slice_get, slice_set, ◌≡◌, ℕ, zero, suc, Bool, true, false, List, ◌++◌, Option, Some, None, option_and_then, option_map}
use Rattle.amo_run_log.specs.declared.entry.Entry.{Entry}
use Rattle.amo_run_log.specs.declared.finding.Finding.{Finding}
use Rattle.amo_run_log.specs.declared.journal.Attempt.{Attempt}
use Rattle.amo_run_log.specs.Entries.{entries_in}
use Rattle.amo_run_log.specs.Findings.{findings_in}
use Rattle.amo_run_log.specs.Journals.{journal_from}

-- the findings, once those of these texts are read too
abbrev pub findings_after : List Finding → List (List ℕ) → Option (List Finding)
findings_after findings texts = option_map (λ more. findings ++ more) (findings_in texts)

-- the journals, once these entries are noted in that of a worker, in a run of so many lines
abbrev pub journals_noting : (count : ℕ) → List (List Attempt) → (worker : ℕ) → List Entry → Option (List (List Attempt))
journals_noting count journals zero entries = None
journals_noting count journals (suc k) entries =
    option_and_then (λ es. option_map (λ next. slice_set journals k next) (journal_from count es entries)) (slice_get journals k)

-- the journals, once these texts of appends are read too, of that of a worker
abbrev pub journals_after : (count : ℕ) → List (List Attempt) → (worker : ℕ) → List (List ℕ) → Option (List (List Attempt))
journals_after count journals worker texts = option_and_then (λ entries. journals_noting count journals worker entries) (entries_in texts)

-- what a call that says whether it has read these texts made of the findings
abbrev pub ReadsFindings : Bool → List Finding → List (List ℕ) → List Finding → Type 0
ReadsFindings true old texts new = findings_after old texts ≡ Some new
ReadsFindings false old texts new = findings_after old texts ≡ None

-- what a call that says whether it has noted these entries made of the journals
abbrev pub NotesEntries : (count : ℕ) → Bool → List (List Attempt) → (worker : ℕ) → List Entry → List (List Attempt) → Type 0
NotesEntries count true old worker entries new = journals_noting count old worker entries ≡ Some new
NotesEntries count false old worker entries new = journals_noting count old worker entries ≡ None

-- what a call that says whether it has read these texts made of the journals
abbrev pub ReadsJournal : (count : ℕ) → Bool → List (List Attempt) → (worker : ℕ) → List (List ℕ) → List (List Attempt) → Type 0
ReadsJournal count true old worker texts new = journals_after count old worker texts ≡ Some new
ReadsJournal count false old worker texts new = journals_after count old worker texts ≡ None
