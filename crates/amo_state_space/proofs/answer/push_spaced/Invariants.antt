-- The facts that each pass of a loop of `push_spaced` keeps.
use Rattle.std.proofs.Common.{◌≡◌, ◌++◌, take, string_bytes}
use Rattle.amo_render.specs.Numbers.{spaced}
use Rattle.amo_state_space.proofs.answer.push_spaced.Given as goal

-- the numbers so far are written
abbrev pub invariant-loop-number : goal.invariant-loop-number
invariant-loop-number l = string_bytes l.out ≡ string_bytes l.fn.out ++ spaced (take l.number-index l.numbers)
