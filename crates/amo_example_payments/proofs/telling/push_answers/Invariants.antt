-- The facts that each pass of a loop of `push_answers` keeps.
use Rattle.std.proofs.Common.{◌≡◌, ◌++◌, drop, string_bytes}
use Rattle.amo_example_payments.specs.Reports.{answer_lines}
use Rattle.amo_example_payments.proofs.telling.push_answers.Given as goal

-- what is written and the lines to come are what was there and all lines
abbrev pub invariant-loop-output : goal.invariant-loop-output
invariant-loop-output l = string_bytes l.text ++ answer_lines (drop l.output-index l.outputs) ≡ string_bytes l.fn.text ++ answer_lines l.outputs
