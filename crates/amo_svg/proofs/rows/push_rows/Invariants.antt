-- The facts that each pass of a loop of `push_rows` keeps.
use Rattle.std.proofs.Common.{◌≡◌, ◌++◌, ◌+◌, drop, string_bytes}
use Rattle.amo_svg.specs.Rows.{row_texts}
use Rattle.amo_svg.proofs.rows.push_rows.Given as goal

-- what is written and the rows to come are what was there and all rows
abbrev pub invariant-loop-i : goal.invariant-loop-i
invariant-loop-i l = string_bytes l.out ++ row_texts l.workers (l.i + 1) (drop l.i l.rows) ≡ string_bytes l.fn.out ++ row_texts l.workers 1 l.rows
