-- The facts that each pass of a loop of `push_doubts` keeps.
use Rattle.std.proofs.Common.{◌≡◌, ◌++◌, drop, string_bytes}
use Rattle.amo_example_payments.specs.Reports.{doubt_lines}
use Rattle.amo_example_payments.proofs.telling.push_doubts.Given as goal

-- what is written and the lines to come are what was there and all lines
abbrev pub invariant-loop-id : goal.invariant-loop-id
invariant-loop-id l = string_bytes l.text ++ doubt_lines (drop l.id-index l.in_doubt) ≡ string_bytes l.fn.text ++ doubt_lines l.in_doubt
