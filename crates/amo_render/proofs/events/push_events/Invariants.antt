-- The facts that each pass of a loop of `push_events` keeps.
use Rattle.std.proofs.Common.{◌≡◌, ◌++◌, ◌+◌, drop, string_bytes}
use Rattle.amo_render.specs.EventLines.{event_lines}
use Rattle.amo_render.proofs.events.push_events.Given as goal

-- what is written and the lines to come are what was there and all lines
abbrev pub invariant-loop-i : goal.invariant-loop-i
invariant-loop-i l = string_bytes l.out ++ event_lines (l.i + 1) (drop l.i l.history) ≡ string_bytes l.fn.out ++ event_lines 1 l.history
