-- A journal: its intents in order, each with its answer. Serial numbers count from 1 without a gap,
-- an intent is of one of the lines 1..count, and an answer goes to an intent that has none.
use Rattle.std.specs.Prelude.{◌≡◌, ◌≢◌, ◌≤◌, ◌+◌, ◌-◌, ℕ, zero, suc, Bool, true, false, ◌&&◌, nat_le, List, [], ◌∷◌, ◌++◌, ◌==◌, length, take, Option, Some, None, is_none, option_and_then, option_map, if◌then◌else◌}
use Rattle.amo_run_log.specs.declared.entry.Outcome.{Outcome}
use Rattle.amo_run_log.specs.declared.entry.Entry.{Entry}
use Rattle.amo_run_log.specs.declared.entry.Entry.TheVariants.{Intent, Answer as Answered}
use Rattle.amo_run_log.specs.declared.fault.Fault.{Fault}
use Rattle.amo_run_log.specs.declared.fault.Fault.TheVariants.{Memory, Refused}
use Rattle.amo_run_log.specs.declared.append.Append.{Append}
use Rattle.amo_run_log.specs.declared.journal.Attempt.{Attempt}
use Rattle.amo_run_log.specs.Entries.{entries_in, entries_of_append}

-- the attempts once the one at this index has this answer
abbrev pub answered : List Attempt → ℕ → Outcome → Option (List Attempt)
answered [] i a = None
answered (e ∷ es) zero a = if is_none e.answer then Some (record e { answer = Some a } ∷ es) else None
answered (e ∷ es) (suc i) a = option_map (λ rest. e ∷ rest) (answered es i a)

-- once the intent of this serial number has it
abbrev pub answered_to : List Attempt → ℕ → Outcome → Option (List Attempt)
answered_to es zero a = None
answered_to es (suc i) a = answered es i a

-- whether it is one of the lines 1..count
abbrev pub is_line : ℕ → ℕ → Bool
is_line count line = nat_le 1 line && nat_le line count

-- once the entry is noted
abbrev pub noted : ℕ → List Attempt → Entry → Option (List Attempt)
noted count es (Intent serial line time) = if (serial == length es + 1) && is_line count line then Some (es ++ record { line = line; time = time; answer = None } ∷ []) else None
noted count es (Answered serial answer) = answered_to es serial answer

-- once all these are
abbrev pub journal_from : ℕ → List Attempt → List Entry → Option (List Attempt)
journal_from count es [] = Some es
journal_from count es (entry ∷ entries) = option_and_then (λ next. journal_from count next entries) (noted count es entry)

-- the journal that entries are
abbrev pub journal_of : ℕ → List Entry → Option (List Attempt)
journal_of count entries = journal_from count [] entries

-- what a call that says whether it noted an entry has made of the attempts
abbrev pub NotesOrNot : ℕ → Bool → List Attempt → Entry → List Attempt → Type 0
NotesOrNot count true old entry new = noted count old entry ≡ Some new
NotesOrNot count false old entry new = (noted count old entry ≡ None) × (new ≡ old)

-- the entries before the refused one are a journal, and with it they are not
abbrev pub IsRefused : ℕ → List Entry → Fault → Type 0
IsRefused count entries Memory = Unit {0}
IsRefused count entries (Refused number) = (1 ≤ number) × (number ≤ length entries) × (journal_of count (take (number - 1) entries) ≢ None) × (journal_of count (take number entries) ≡ None)

-- the attempts once all entries of an append are noted; if they aren't, no journal has them
abbrev pub NotesAllOrNot : ℕ → Bool → List Attempt → Append → List Attempt → Type 0
NotesAllOrNot count true old append new = journal_from count old (entries_of_append append) ≡ Some new
NotesAllOrNot count false old append new = journal_from count old (entries_of_append append) ≡ None

-- the journal that the texts of appends say
abbrev pub attempts_in : ℕ → List (List ℕ) → Option (List Attempt)
attempts_in count texts = option_and_then (λ entries. journal_of count entries) (entries_in texts)

-- the appends before the refused one say a journal, and with it they say none
abbrev pub IsRefusedAppend : ℕ → List (List ℕ) → Fault → Type 0
IsRefusedAppend count texts Memory = Unit {0}
IsRefusedAppend count texts (Refused number) = (1 ≤ number) × (number ≤ length texts) × (attempts_in count (take (number - 1) texts) ≢ None) × (attempts_in count (take number texts) ≡ None)

-- the serial numbers and lines of the intents without an answer
abbrev pub pending_from : ℕ → List Attempt → List (ℕ × ℕ)
pending_from serial [] = []
pending_from serial (e ∷ es) = if is_none e.answer then (serial, e.line) ∷ pending_from (serial + 1) es else pending_from (serial + 1) es
