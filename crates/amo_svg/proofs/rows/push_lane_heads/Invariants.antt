-- The facts that each pass of a loop of `push_lane_heads` keeps.
use Rattle.std.proofs.Common.{◌≡◌, ◌++◌, string_bytes}
use Rattle.amo_svg.specs.Rows.{lane_heads}
use Rattle.amo_svg.proofs.rows.push_lane_heads.Given as goal

-- the heads of the workers so far
abbrev pub invariant-loop-before : goal.invariant-loop-before
invariant-loop-before l = string_bytes l.out ≡ string_bytes l.fn.out ++ lane_heads l.rows l.before
