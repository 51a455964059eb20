-- The facts that each pass of a loop of `push_openings` keeps.
use Rattle.std.proofs.Common.{◌≡◌, ◌++◌, string_bytes}
use Rattle.amo_trace.specs.Trace.{opening_lines}
use Rattle.amo_trace.proofs.lines.push_openings.Given as goal

-- the lines of the workers so far
abbrev pub invariant-loop-before : goal.invariant-loop-before
invariant-loop-before l = string_bytes l.out ≡ string_bytes l.fn.out ++ opening_lines l.world.world l.before
