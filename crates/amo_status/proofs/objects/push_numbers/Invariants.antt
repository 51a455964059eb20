-- The facts that each pass of a loop of `push_numbers` keeps.
use Rattle.std.proofs.Common.{◌≡◌, ◌++◌, false, drop}
use Rattle.amo_status.specs.Json.{json_numbers}
use Rattle.amo_status.proofs.objects.push_numbers.Given as goal

abbrev pub invariant-loop-number : goal.invariant-loop-number
invariant-loop-number l = l.text.items ++ json_numbers l.later (drop l.number-index l.numbers) ≡ l.fn.text.items ++ json_numbers false l.numbers
