-- The facts that each pass of a loop of `push_transitions` keeps.
use Rattle.std.proofs.Common.{◌≡◌, ◌++◌, drop, string_bytes}
use Rattle.amo_trace.specs.Trace.{transition_lines}
use Rattle.amo_trace.proofs.lines.push_transitions.Given as goal

-- what is written and the lines to come are what was there and all lines
abbrev pub invariant-loop-transition : goal.invariant-loop-transition
invariant-loop-transition l = string_bytes l.out ++ transition_lines (drop l.transition-index l.transitions) ≡ string_bytes l.fn.out ++ transition_lines l.transitions
