-- The facts that each pass of a loop of `push_after_commas` keeps.
use Rattle.std.proofs.Common.{◌≡◌, ◌++◌, take, string_bytes}
use Rattle.std.specs.List.{flat_map}
use Rattle.amo_worst_case.specs.Text.{after_comma}
use Rattle.amo_worst_case.proofs.jobs.push_after_commas.Given as goal

-- the numbers so far are written
abbrev pub invariant-loop-number : goal.invariant-loop-number
invariant-loop-number l = string_bytes l.out ≡ string_bytes l.fn.out ++ flat_map after_comma (take l.number-index l.numbers)
