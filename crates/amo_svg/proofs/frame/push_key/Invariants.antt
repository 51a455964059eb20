-- The facts that each pass of a loop of `push_key` keeps.
use Rattle.std.proofs.Common.{◌≡◌, ◌++◌, drop, string_bytes}
use Rattle.amo_svg.specs.Frame.{key_lines}
use Rattle.amo_svg.proofs.frame.push_key.Given as goal

-- what is written and the lines to come are what was there and all lines
abbrev pub invariant-loop-i : goal.invariant-loop-i
invariant-loop-i l = string_bytes l.out ++ key_lines l.y l.i (drop l.i l.lines) ≡ string_bytes l.fn.out ++ key_lines l.y 0 l.lines
