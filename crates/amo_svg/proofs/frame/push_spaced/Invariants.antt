-- The facts that each pass of a loop of `push_spaced` keeps.
use Rattle.std.proofs.Common.{◌≡◌, ◌++◌, drop, string_bytes}
use Rattle.amo_render.specs.Numbers.{spaced}
use Rattle.amo_svg.proofs.frame.push_spaced.Given as goal

-- what is written and the numbers to come are what was there and all numbers
abbrev pub invariant-loop-number : goal.invariant-loop-number
invariant-loop-number l = string_bytes l.out ++ spaced (drop l.number-index l.numbers) ≡ string_bytes l.fn.out ++ spaced l.numbers
