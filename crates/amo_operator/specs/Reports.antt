-- The texts that a command prints, by what is known of a run.
use Rattle.std.specs.Prelude.{ℕ, List, length}
use Rattle.amo_status.specs.declared.standing.LineStatus.{LineStatus}
use Rattle.amo_status.specs.Counts.{counts_of}
use Rattle.amo_status.specs.Json.{doubts_json, status_json}
use Rattle.amo_status.specs.Rows.{doubt_row, kind_row, rows_from, status_text}
use Rattle.amo_status.specs.Standings.{standings_of}
use Rattle.amo_operator.specs.declared.model.Form.{Form}
use Rattle.amo_operator.specs.declared.model.Form.TheVariants.{Text, Json, Lines}
use Rattle.amo_operator.specs.Phase.{Known}

-- How the lines stand.
abbrev pub lines_stand : Known → List LineStatus
lines_stand k = standings_of k.findings k.journals k.finals (length k.lines)

-- The status of the lines that stand so.
abbrev pub status_in : Form → (alive : List ℕ) → List LineStatus → (lines : List (List ℕ)) → List ℕ
status_in Text alive standings lines = status_text (counts_of standings) alive standings lines
status_in Json alive standings lines = status_json (counts_of standings) alive standings lines
status_in (Lines kind) alive standings lines = rows_from (kind_row kind) 0 standings lines

-- The doubts among the lines that stand so, by a clock that shows this time.
abbrev pub doubts_in : Form → (time : ℕ) → List LineStatus → (lines : List (List ℕ)) → List ℕ
doubts_in Json time standings lines = doubts_json time standings lines
doubts_in form time standings lines = rows_from (doubt_row time) 0 standings lines

-- The status of a run.
abbrev pub status_of : Form → Known → List ℕ
status_of form k = status_in form k.alive (lines_stand k) k.lines

-- The doubts of a run.
abbrev pub doubts_of : Form → Known → (time : ℕ) → List ℕ
doubts_of form k time = doubts_in form time (lines_stand k) k.lines
