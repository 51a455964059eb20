-- The status of a run and the doubts as JSON: members in this order, without spaces.
use Rattle.std.specs.Prelude.{ℕ, ◌+◌, Bool, true, false, ◌||◌, List, [], ◌∷◌, ◌++◌, codes, slice_index_or, Option, Some, None, if◌then◌else◌}
use Rattle.std.specs.Fmt.{decimal}
use Rattle.std.specs.Str.{is_utf8}
use Rattle.json.specs.Print.{quoted}
use Rattle.amo_status.specs.declared.count.Counts.{Counts}
use Rattle.amo_status.specs.declared.heading.Style.TheVariants.{Members}
use Rattle.amo_status.specs.declared.standing.LineStatus.{LineStatus}
use Rattle.amo_status.specs.declared.state.State.{State}
use Rattle.amo_status.specs.declared.state.State.TheVariants.{Doubt}
use Rattle.amo_status.specs.Ages.{age_json, age_of, time_json}
use Rattle.amo_status.specs.Headings.{counts_text}
use Rattle.amo_status.specs.Rows.{is_listed, line_end, state_word}
use Rattle.amo_status.specs.States.{is}

-- a comma where something stands before
abbrev pub comma_if : Bool → List ℕ
comma_if later = if later then codes "," else []

-- whether a line that stands so is shown: in the list of doubts, which has times and needs a clock
-- for it, or in the status
abbrev pub is_shown : Option ℕ → State → Bool
is_shown (Some now) s = is Doubt s
is_shown None s = is_listed s

-- a text as a JSON string; bytes that are no text are null
abbrev pub text_or_null : List ℕ → List ℕ
text_or_null bytes = if is_utf8 bytes then quoted bytes else codes "null"

-- before the line's text
abbrev pub json_head : ℕ → LineStatus → List ℕ
json_head line s = codes "{\"intent\":\"" ++ (decimal s.worker ++ (codes "." ++ (decimal s.serial ++ (codes "\",\"line\":" ++ (decimal line ++ codes ",\"text\":")))))

-- After the line's text: in the list of doubts with the time at which it was begun, the one at
-- which it ended, and how long ago that is.
abbrev pub json_tail : Option ℕ → LineStatus → List ℕ
json_tail (Some now) s =
    codes ",\"state\":\"" ++ (state_word s.state ++ (codes "\",\"time\":" ++ (decimal s.time
    ++ (codes ",\"ended\":" ++ (time_json s.ended ++ (codes ",\"age\":" ++ (age_json (age_of now s.ended) ++ codes "}")))))))
json_tail None s = codes ",\"state\":\"" ++ (state_word s.state ++ codes "\"}")

-- the object of a line, if it is shown
abbrev pub json_row : Option ℕ → Bool → ℕ → LineStatus → List ℕ → List ℕ
json_row clock later line s text = if is_shown clock s.state then comma_if later ++ (json_head line s ++ (text_or_null text ++ json_tail clock s)) else []

-- those of the lines from the one at this index on
abbrev pub json_rows : Option ℕ → Bool → ℕ → List LineStatus → List (List ℕ) → List ℕ
json_rows clock later k [] texts = []
json_rows clock later k (s ∷ ss) texts = json_row clock later (k + 1) s (slice_index_or texts k []) ++ json_rows clock (later || is_shown clock s.state) (k + 1) ss texts

-- the numbers, a comma between each two
abbrev pub json_numbers : Bool → List ℕ → List ℕ
json_numbers later [] = []
json_numbers later (n ∷ ns) = comma_if later ++ (decimal n ++ json_numbers true ns)

-- the status
abbrev pub status_json : Counts → List ℕ → List LineStatus → List (List ℕ) → List ℕ
status_json c alive standings texts =
    codes "{" ++ (counts_text Members c ++ (codes ",\"alive\":[" ++ (json_numbers false alive ++ (codes "],\"intents\":[" ++ (json_rows None false 0 standings texts ++ (codes "]}" ++ line_end))))))

-- the doubts, by a clock that shows this
abbrev pub doubts_json : ℕ → List LineStatus → List (List ℕ) → List ℕ
doubts_json now standings texts = codes "[" ++ (json_rows (Some now) false 0 standings texts ++ (codes "]" ++ line_end))
