-- The facts that each pass of a loop of `push_lane_feet` keeps.
use Rattle.std.proofs.Common.{◌≡◌, ◌++◌, string_bytes}
use Rattle.amo_svg.specs.Feet.{lane_feet}
use Rattle.amo_svg.proofs.feet.push_lane_feet.Given as goal

-- the feet of the workers so far
abbrev pub invariant-loop-before : goal.invariant-loop-before
invariant-loop-before l = string_bytes l.out ≡ string_bytes l.fn.out ++ lane_feet l.world.world l.y l.before
