-- The intents that can be read of the journals of a damaged run.
use Rattle.std.specs.Prelude.{ℕ, ◌+◌, ◌==◌, nat_lt, List, [], ◌∷◌, ◌++◌, codes, Option, Some, None, if◌then◌else◌}
use Rattle.std.specs.Fmt.{decimal}
use Rattle.std.specs.List.{flat_map}
use Rattle.amo_journal.specs.Logs.{records_of}
use Rattle.amo_run_log.specs.Entries.{append_in, entries_of_append}
use Rattle.amo_run_log.specs.declared.append.Append.{Append}
use Rattle.amo_run_log.specs.declared.entry.Entry.{Entry}
use Rattle.amo_run_log.specs.declared.entry.Entry.TheVariants.{Intent, Answer as Answered}
use Rattle.amo_run_views.specs.declared.readable.ReadableLog.{ReadableLog}

-- the texts of the appends that can be read
abbrev pub log_texts : ReadableLog → List (List ℕ)
log_texts log = records_of log.records.items

-- the line, the worker and the number of the intent that an entry is; none if it is of no line
abbrev pub named_by : ℕ → Entry → List (ℕ × ℕ × ℕ)
named_by worker (Intent serial line time) = if nat_lt 0 line then (line, worker, serial) ∷ [] else []
named_by worker (Answered serial answer) = []

-- those of an append
abbrev pub named_by_append : ℕ → Option Append → List (ℕ × ℕ × ℕ)
named_by_append worker None = []
named_by_append worker (Some append) = flat_map (named_by worker) (entries_of_append append)

-- those of these texts
abbrev pub named_in : ℕ → List (List ℕ) → List (ℕ × ℕ × ℕ)
named_in worker texts = flat_map (λ text. named_by_append worker (append_in text)) texts

-- those of journals, the first of which is that of this worker
abbrev pub named_from : ℕ → List (List (List ℕ)) → List (ℕ × ℕ × ℕ)
named_from worker [] = []
named_from worker (texts ∷ journals) = named_in worker texts ++ named_from (worker + 1) journals

-- how many appends there are, in words
abbrev pub count_text : ℕ → List ℕ
count_text count = if count == 1 then codes "1 append" else decimal count ++ codes " appends"
