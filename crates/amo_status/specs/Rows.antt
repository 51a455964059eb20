-- Lines as they are listed, a row each: by the intent by which the line is closed, with the line's
-- number and its text.
use Rattle.std.specs.Prelude.{ℕ, ◌+◌, Bool, true, false, List, [], ◌∷◌, ◌++◌, codes, slice_index_or, if◌then◌else◌}
use Rattle.std.specs.Fmt.{decimal}
use Rattle.amo_status.specs.declared.count.Counts.{Counts}
use Rattle.amo_status.specs.declared.heading.Style.TheVariants.{Words}
use Rattle.amo_status.specs.declared.rows.Form.{Form}
use Rattle.amo_status.specs.declared.rows.Form.TheVariants.{Status, Doubts, Kind}
use Rattle.amo_status.specs.declared.standing.LineStatus.{LineStatus}
use Rattle.amo_status.specs.declared.state.State.{State}
use Rattle.amo_status.specs.declared.state.State.TheVariants.{Open, Done, Failed, Doubt, Untouched, Running}
use Rattle.amo_status.specs.Ages.{age_of, age_word}
use Rattle.amo_status.specs.Headings.{counts_text}
use Rattle.amo_status.specs.States.{is}

-- a tab
abbrev pub tab : List ℕ
tab = 9 ∷ []

-- a line feed
abbrev pub line_end : List ℕ
line_end = 10 ∷ []

-- the word of a state
abbrev pub state_word : State → List ℕ
state_word Open = codes "open"
state_word Done = codes "done"
state_word Failed = codes "failed"
state_word Doubt = codes "doubt"
state_word Untouched = codes "untouched"
state_word Running = codes "running"

-- whether the status lists a line that stands so
abbrev pub is_listed : State → Bool
is_listed Open = false
is_listed Done = false
is_listed Failed = false
is_listed state = true

-- `STATE P.S LINE `
abbrev pub status_head : ℕ → LineStatus → List ℕ
status_head line s = state_word s.state ++ (codes " " ++ (decimal s.worker ++ (codes "." ++ (decimal s.serial ++ (codes " " ++ (decimal line ++ codes " "))))))

-- `P.S`, a tab, the line, a tab; for an open line `-` in place of an intent
abbrev pub kind_head : ℕ → LineStatus → List ℕ
kind_head line s =
    if is Open s.state then codes "-" ++ (tab ++ (decimal line ++ tab))
    else decimal s.worker ++ (codes "." ++ (decimal s.serial ++ (tab ++ (decimal line ++ tab))))

-- whether a line that stands so is listed in this form
abbrev pub is_listed_in : Form → State → Bool
is_listed_in Status state = is_listed state
is_listed_in (Doubts now) state = is Doubt state
is_listed_in (Kind kind) state = is kind state

-- what stands before a line's text
abbrev pub row_head : Form → ℕ → LineStatus → List ℕ
row_head (Kind kind) line s = kind_head line s
row_head form line s = status_head line s

-- The text after a line's text: its end, in the list of doubts after the time at which it was
-- begun, and how long ago it ended.
abbrev pub row_tail : Form → LineStatus → List ℕ
row_tail (Doubts now) s = codes " " ++ (decimal s.time ++ (codes " " ++ (age_word (age_of now s.ended) ++ line_end)))
row_tail form s = line_end

-- the row of a line in this form
abbrev pub row_of : Form → ℕ → LineStatus → List ℕ → List ℕ
row_of form line s text = if is_listed_in form s.state then row_head form line s ++ (text ++ row_tail form s) else []

-- its row in the status
abbrev pub status_row : ℕ → LineStatus → List ℕ → List ℕ
status_row = row_of Status

-- its row in the list of doubts, by a clock that shows this
abbrev pub doubt_row : ℕ → ℕ → LineStatus → List ℕ → List ℕ
doubt_row now = row_of (Doubts now)

-- its row in the list of the lines that stand so
abbrev pub kind_row : State → ℕ → LineStatus → List ℕ → List ℕ
kind_row kind = row_of (Kind kind)

-- the rows of the lines from the one at this index on
abbrev pub rows_from : (ℕ → LineStatus → List ℕ → List ℕ) → ℕ → List LineStatus → List (List ℕ) → List ℕ
rows_from row k [] texts = []
rows_from row k (s ∷ ss) texts = row (k + 1) s (slice_index_or texts k []) ++ rows_from row (k + 1) ss texts

-- the numbers, each after a blank
abbrev pub spaced : List ℕ → List ℕ
spaced [] = []
spaced (p ∷ ps) = codes " " ++ (decimal p ++ spaced ps)

-- the status: the counts, the workers that are alive, and the rows
abbrev pub status_text : Counts → List ℕ → List LineStatus → List (List ℕ) → List ℕ
status_text c alive standings texts = counts_text Words c ++ (line_end ++ (codes "alive" ++ (spaced alive ++ (line_end ++ rows_from status_row 0 standings texts))))
