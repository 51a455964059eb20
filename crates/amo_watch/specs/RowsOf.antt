-- The attempts of a journal, each with how it stands if nobody has looked whether a pending one is
-- over.
use Rattle.std.specs.Prelude.{ℕ, ◌+◌, List, [], ◌∷◌}
use Rattle.amo_run_log.specs.declared.finding.Finding.{Finding}
use Rattle.amo_run_log.specs.declared.journal.Attempt.{Attempt}
use Rattle.amo_status.specs.States.{state_of}
use Rattle.amo_watch.specs.declared.row.AttemptRow.{AttemptRow}

-- the row of the attempt of this worker and serial number
abbrev pub row_of : List Finding → ℕ → ℕ → Attempt → AttemptRow
row_of findings worker serial a =
    record { worker = worker; serial = serial; line = a.line; begun = a.time; outcome = a.answer; state = state_of findings [] worker serial a.answer }

-- the rows of these attempts, the first of them of this serial number
abbrev pub rows_from : List Finding → ℕ → ℕ → List Attempt → List AttemptRow
rows_from findings worker serial [] = []
rows_from findings worker serial (a ∷ rest) = row_of findings worker serial a ∷ rows_from findings worker (serial + 1) rest
