-- Which attempts of a journal have changed since they were shown.
use Rattle.std.specs.Prelude.{ℕ, Bool, true, false, ◌&&◌, ◌==◌, List, [], ◌∷◌, ◌++◌, Option, Some, None, if◌then◌else◌}
use Rattle.amo_run_log.specs.declared.entry.Outcome.{Outcome}
use Rattle.amo_run_log.specs.declared.entry.Outcome.TheVariants.{Done, Doubt, Unbegun, Untouched}
use Rattle.amo_status.specs.States.{is}
use Rattle.amo_watch.specs.declared.row.AttemptRow.{AttemptRow}

-- the kind of an outcome, by its place among all
abbrev pub kind_of : Option Outcome → ℕ
kind_of None = 0
kind_of (Some (Done code time)) = 1
kind_of (Some (Doubt time)) = 2
kind_of (Some Unbegun) = 3
kind_of (Some (Untouched code time)) = 4

-- its code, or 0
abbrev pub code_in : Option Outcome → ℕ
code_in None = 0
code_in (Some (Done code time)) = code
code_in (Some (Doubt time)) = 0
code_in (Some Unbegun) = 0
code_in (Some (Untouched code time)) = code

-- its time, or 0
abbrev pub time_in : Option Outcome → ℕ
time_in None = 0
time_in (Some (Done code time)) = time
time_in (Some (Doubt time)) = time
time_in (Some Unbegun) = 0
time_in (Some (Untouched code time)) = time

-- whether two outcomes are the same
abbrev pub same_outcome : Option Outcome → Option Outcome → Bool
same_outcome a b = (kind_of a == kind_of b) && ((code_in a == code_in b) && (time_in a == time_in b))

-- whether two rows show the same attempt
abbrev pub same_attempt : AttemptRow → AttemptRow → Bool
same_attempt a b = (a.worker == b.worker) && ((a.serial == b.serial) && ((a.line == b.line) && (a.begun == b.begun)))

-- whether two rows are the same
abbrev pub same_row : AttemptRow → AttemptRow → Bool
same_row a b = same_attempt a b && (same_outcome a.outcome b.outcome && is a.state b.state)

-- the row in a list, unless the list of the shown rows begins with the same one
abbrev pub unless_first : List AttemptRow → AttemptRow → List AttemptRow
unless_first [] row = row ∷ []
unless_first (old ∷ olds) row = if same_row old row then [] else row ∷ []

-- the list without its first element
abbrev pub rest_of : List AttemptRow → List AttemptRow
rest_of [] = []
rest_of (old ∷ olds) = olds

-- the rows that were not shown as they are at their places
abbrev pub changed : List AttemptRow → List AttemptRow → List AttemptRow
changed olds [] = []
changed olds (row ∷ rows) = unless_first olds row ++ changed (rest_of olds) rows
