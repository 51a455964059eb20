-- A line of JSON for a watcher: the head, the counts, and an array for each attempt that is new or
-- has changed. Members and elements stand in this order, with no space.
use Rattle.std.specs.Prelude.{ℕ, Bool, true, false, ◌==◌, List, [], ◌∷◌, ◌++◌, codes, Option, Some, None, if◌then◌else◌}
use Rattle.std.specs.Fmt.{decimal}
use Rattle.amo_run_log.specs.declared.entry.Outcome.{Outcome}
use Rattle.amo_run_log.specs.declared.entry.Outcome.TheVariants.{Done, Doubt, Unbegun, Untouched}
use Rattle.amo_status.specs.declared.count.Counts.{Counts}
use Rattle.amo_status.specs.declared.state.State.{State}
use Rattle.amo_status.specs.declared.state.State.TheVariants.{Open as StandsOpen, Done as StandsDone, Failed, Doubt as InDoubt, Untouched as Idle, Running}
use Rattle.amo_status.specs.Ages.{time_json}
use Rattle.amo_watch.specs.declared.row.AttemptRow.{AttemptRow}
use Rattle.amo_watch.specs.Changes.{time_in}

-- the word of an outcome
abbrev pub outcome_word : Option Outcome → List ℕ
outcome_word None = codes "pending"
outcome_word (Some (Done code time)) = codes "done"
outcome_word (Some (Doubt time)) = codes "doubt"
outcome_word (Some Unbegun) = codes "unbegun"
outcome_word (Some (Untouched code time)) = codes "untouched"

-- its code as JSON: null if it has none
abbrev pub code_json : Option Outcome → List ℕ
code_json None = codes "null"
code_json (Some (Done code time)) = decimal code
code_json (Some (Doubt time)) = codes "null"
code_json (Some Unbegun) = codes "null"
code_json (Some (Untouched code time)) = decimal code

-- the word of a state. A pending attempt is running or in doubt: nobody has looked
abbrev pub watch_word : State → List ℕ
watch_word StandsOpen = codes "open"
watch_word StandsDone = codes "done"
watch_word Failed = codes "failed"
watch_word InDoubt = codes "doubt"
watch_word Idle = codes "untouched"
watch_word Running = codes "pending"

-- a comma unless it is the first
abbrev pub comma_unless : Bool → List ℕ
comma_unless first = if first then [] else codes ","

-- `[P,S,LINE,BEGUN,`
abbrev pub row_front : AttemptRow → List ℕ
row_front r = codes "[" ++ (decimal r.worker ++ (codes "," ++ (decimal r.serial ++ (codes "," ++ (decimal r.line ++ (codes "," ++ (time_json r.begun ++ codes ",")))))))

-- `"OUTCOME",CODE,ENDED,"STATE"]`
abbrev pub row_back : AttemptRow → List ℕ
row_back r = codes "\"" ++ (outcome_word r.outcome ++ (codes "\"," ++ (code_json r.outcome ++ (codes "," ++ (time_json (time_in r.outcome) ++ (codes ",\"" ++ (watch_word r.state ++ codes "\"]")))))))

-- the array of an attempt
abbrev pub row_json : Bool → AttemptRow → List ℕ
row_json first r = comma_unless first ++ (row_front r ++ row_back r)

-- the arrays of these attempts, with a comma between each two
abbrev pub rows_json : Bool → List AttemptRow → List ℕ
rows_json first [] = []
rows_json first (r ∷ rs) = row_json first r ++ rows_json false rs

-- a round as JSON: null before the first one
abbrev pub round_json : ℕ → List ℕ
round_json round = if round == 0 then codes "null" else decimal round

-- the members of the head
abbrev pub head_json : ℕ → List ℕ → ℕ → ℕ → List ℕ
head_json time id round workers =
    codes "{\"format\":1,\"time\":" ++ (decimal time ++ (codes ",\"id\":\"" ++ (id ++ (codes "\",\"round\":" ++ (round_json round ++ (codes ",\"workers\":" ++ round_json workers))))))

-- the counts of the lines
abbrev pub counts_front : Counts → List ℕ
counts_front c = codes ",\"lines\":" ++ (decimal c.lines ++ (codes ",\"done\":" ++ (decimal c.done ++ (codes ",\"failed\":" ++ (decimal c.failed ++ (codes ",\"doubt\":" ++ decimal c.doubt))))))

-- the other ones
abbrev pub counts_back : Counts → List ℕ
counts_back c = codes ",\"pending\":" ++ (decimal c.running ++ (codes ",\"untouched\":" ++ (decimal c.untouched ++ (codes ",\"open\":" ++ (decimal c.open ++ codes ",\"attempts\":[")))))

-- all of them
abbrev pub counts_json : Counts → List ℕ
counts_json c = counts_front c ++ counts_back c

-- what stands after the attempts
abbrev pub line_end : List ℕ
line_end = codes "]}" ++ 10 ∷ []

-- the line, with its end
abbrev pub watch_line : (time : ℕ) (id : List ℕ) (round workers : ℕ) → Counts → List AttemptRow → List ℕ
watch_line time id round workers c rows = head_json time id round workers ++ (counts_json c ++ (rows_json true rows ++ line_end))
