-- The facts that each pass of a loop of `push_grid` keeps.
use Rattle.std.proofs.Common.{◌≡◌, ◌++◌, string_bytes}
use Rattle.amo_svg.specs.Jobs.{grid}
use Rattle.amo_svg.proofs.jobs.push_grid.Given as goal

-- the lines of the numbers so far
abbrev pub invariant-loop-number : goal.invariant-loop-number
invariant-loop-number l = string_bytes l.out ≡ string_bytes l.fn.out ++ grid l.width l.last l.number
