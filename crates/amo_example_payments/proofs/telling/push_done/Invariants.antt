-- The facts that each pass of a loop of `push_done` keeps.
use Rattle.std.proofs.Common.{◌≡◌, ◌++◌, drop, string_bytes}
use Rattle.amo_example_payments.specs.Reports.{done_lines}
use Rattle.amo_example_payments.proofs.telling.push_done.Given as goal

-- what is written and the lines to come are what was there and all lines
abbrev pub invariant-loop-output : goal.invariant-loop-output
invariant-loop-output l = string_bytes l.text ++ done_lines (drop l.output-index l.outputs) ≡ string_bytes l.fn.text ++ done_lines l.outputs
