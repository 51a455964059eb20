-- The facts that each pass of a loop of `attempt_rows` keeps.
use Rattle.std.proofs.Common.{◌≡◌, ◌+◌, ◌++◌, drop}
use Rattle.amo_watch.specs.RowsOf.{rows_from}
use Rattle.amo_watch.proofs.attempts.attempt_rows.Given as goal

abbrev pub invariant-loop-i : goal.invariant-loop-i
invariant-loop-i l = l.rows.items ++ rows_from l.findings l.worker (l.i + 1) (drop l.i l.attempts) ≡ rows_from l.findings l.worker 1 l.attempts
