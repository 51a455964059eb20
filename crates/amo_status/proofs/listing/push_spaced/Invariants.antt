-- The facts that each pass of a loop of `push_spaced` keeps.
use Rattle.std.proofs.Common.{◌≡◌, ◌++◌, drop}
use Rattle.amo_status.specs.Rows.{spaced}
use Rattle.amo_status.proofs.listing.push_spaced.Given as goal

abbrev pub invariant-loop-number : goal.invariant-loop-number
invariant-loop-number l = l.text.items ++ spaced (drop l.number-index l.numbers) ≡ l.fn.text.items ++ spaced l.numbers
