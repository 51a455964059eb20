-- The facts that each pass of a loop of `push_each` keeps.
use Rattle.std.proofs.Common.{◌≡◌, ◌++◌, drop, string_bytes}
use Rattle.amo_example_payments.specs.Reports.{lines_of}
use Rattle.amo_example_payments.proofs.telling.push_each.Given as goal

-- what is written and the lines to come are what was there and all lines
abbrev pub invariant-loop-payment : goal.invariant-loop-payment
invariant-loop-payment l = string_bytes l.text ++ lines_of l.word (drop l.payment-index l.payments) ≡ string_bytes l.fn.text ++ lines_of l.word l.payments
