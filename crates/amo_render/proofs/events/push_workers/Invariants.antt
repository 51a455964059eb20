-- The facts that each pass of a loop of `push_workers` keeps.
use Rattle.std.proofs.Common.{◌≡◌, ◌++◌, ◌+◌, drop, string_bytes}
use Rattle.amo_render.specs.EventLines.{worker_lines}
use Rattle.amo_render.proofs.events.push_workers.Given as goal

-- what is written and the lines to come are what was there and all lines
abbrev pub invariant-loop-i : goal.invariant-loop-i
invariant-loop-i l = string_bytes l.out ++ worker_lines l.history (l.i + 1) (drop l.i l.turns) ≡ string_bytes l.fn.out ++ worker_lines l.history 1 l.turns
