-- The facts that each pass of a loop of `push_rows` keeps.
use Rattle.std.proofs.Common.{◌≡◌, ◌++◌, drop, map}
use Rattle.amo_status.specs.Rows.{row_of, rows_from}
use Rattle.amo_status.proofs.rows.push_rows.Given as goal

abbrev pub invariant-loop-i : goal.invariant-loop-i
invariant-loop-i l = l.text.items ++ rows_from (row_of l.form) l.i (drop l.i l.standings) (map (λ t. t.now) l.texts) ≡ l.fn.text.items ++ rows_from (row_of l.form) 0 l.standings (map (λ t. t.now) l.texts)
