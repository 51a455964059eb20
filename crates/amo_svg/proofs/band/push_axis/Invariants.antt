-- The facts that each pass of a loop of `push_axis` keeps.
use Rattle.std.proofs.Common.{◌≡◌, ◌++◌, string_bytes}
use Rattle.amo_svg.specs.Band.{axis}
use Rattle.amo_svg.proofs.band.push_axis.Given as goal

-- the numbers of the jobs so far
abbrev pub invariant-loop-before : goal.invariant-loop-before
invariant-loop-before l = string_bytes l.out ≡ string_bytes l.fn.out ++ axis l.tick l.y l.jobs l.before
