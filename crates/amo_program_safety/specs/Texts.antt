-- The entries in the appends of logs. Each append is read on its own, and a text that is not an
-- append has no entries.
use Rattle.std.specs.Prelude.{ℕ, List, [], ◌∷◌, ◌++◌, Option, Some, None}
use Rattle.amo_run_log.specs.declared.append.Append.{Append}
use Rattle.amo_run_log.specs.declared.append.Append.TheVariants.{One, Two}
use Rattle.amo_run_log.specs.declared.entry.Entry.{Entry}
use Rattle.amo_run_log.specs.declared.entry.Entry.TheVariants.{Intent, Answer as Answered}
use Rattle.amo_run_log.specs.Entries.{append_in, entries_of_append}

-- The entries of an append. The list is empty if there is no append.
abbrev pub entries_of : Option Append → List Entry
entries_of None = []
entries_of (Some append) = entries_of_append append

-- The lines of the intents among these entries, in order.
abbrev pub lines_of : List Entry → List ℕ
lines_of [] = []
lines_of (Intent serial line time ∷ entries) = line ∷ lines_of entries
lines_of (Answered serial outcome ∷ entries) = lines_of entries

-- The lines of the intents in these texts of appends, in order.
abbrev pub lines_in : List (List ℕ) → List ℕ
lines_in [] = []
lines_in (text ∷ texts) = lines_of (entries_of (append_in text)) ++ lines_in texts

-- The append of an entry. If another entry is owed, it comes first in the append.
abbrev pub append_of : (owed : Option Entry) → Entry → Append
append_of None entry = One entry
append_of (Some owed) entry = Two owed entry
