-- Entries in the file of a journal, and findings.
use Rattle.std.specs.Prelude.{◌≡◌, ◌⊎◌, ℕ, false, List, [], ◌∷◌, ◌++◌, Option, Some}
use Rattle.amo_journal.specs.Appends.{records_in}
use Rattle.amo_run_log.specs.declared.entry.Entry.{Entry}
use Rattle.amo_run_log.specs.declared.finding.Finding.{Finding}
use Rattle.amo_run_log.specs.declared.journal.Attempt.{Attempt}
use Rattle.amo_run_log.specs.Entries.{entries_in}
use Rattle.amo_run_log.specs.Findings.{findings_in}
use Rattle.amo_run_log.specs.Journals.{journal_of}
use Rattle.amo_run_log.specs.Open.{is_open}

-- what a file says: the entries of all its appends, in order
abbrev pub entries_of : List ℕ → Option (List Entry)
entries_of file = entries_in (records_in file)

-- a file of these entries, with all of the others after them or with none
abbrev pub StandsForMoreOrNot : List Entry → List Entry → List ℕ → Type 0
StandsForMoreOrNot entries more file = (entries_of file ≡ Some entries) ⊎ (entries_of file ≡ Some (entries ++ more))

-- what a file says as findings
abbrev pub findings_of : List ℕ → Option (List Finding)
findings_of file = findings_in (records_in file)

-- a file of these findings, or of one more
abbrev pub SaysOneMoreOrNot : List Finding → Finding → List ℕ → Type 0
SaysOneMoreOrNot findings finding file = (findings_of file ≡ Some findings) ⊎ (findings_of file ≡ Some (findings ++ finding ∷ []))

-- who reads the file among the journals of the workers before and after sees the line closed
abbrev pub IsClosedIn : ℕ → List Finding → List (List Attempt) → List (List Attempt) → ℕ → List ℕ → Type 0
IsClosedIn count findings before after line file =
    (entries : List Entry) (es : List Attempt) → entries_of file ≡ Some entries → journal_of count entries ≡ Some es → is_open findings (before ++ es ∷ after) line ≡ false
