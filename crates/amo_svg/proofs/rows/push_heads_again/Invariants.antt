-- The facts that each pass of a loop of `push_heads_again` keeps.
use Rattle.std.proofs.Common.{◌≡◌, ◌++◌, string_bytes}
use Rattle.amo_svg.specs.Rows.{heads_again}
use Rattle.amo_svg.proofs.rows.push_heads_again.Given as goal

-- the heads of the workers so far
abbrev pub invariant-loop-before : goal.invariant-loop-before
invariant-loop-before l = string_bytes l.out ≡ string_bytes l.fn.out ++ heads_again l.y l.before
