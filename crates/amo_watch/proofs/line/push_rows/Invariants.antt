-- The facts that each pass of a loop of `push_rows` keeps.
use Rattle.std.proofs.Common.{◌≡◌, ◌++◌, true, drop}
use Rattle.amo_watch.specs.Lines.{rows_json}
use Rattle.amo_watch.proofs.line.push_rows.Given as goal

abbrev pub invariant-loop-row : goal.invariant-loop-row
invariant-loop-row l = l.text.items ++ rows_json l.first (drop l.row-index l.rows) ≡ l.fn.text.items ++ rows_json true l.rows
