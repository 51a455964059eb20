-- The facts that each pass of a loop of `with_lines` keeps.
use Rattle.std.proofs.Common.{◌≡◌, map, drop, length}
use Rattle.amo_judge.specs.History.{first_history, with_lines}
use Rattle.amo_judge.proofs.reading.with_lines.Given as goal

-- the history so far and the lines to come decide; each line before had one event
abbrev pub invariant-loop-i : goal.invariant-loop-i
invariant-loop-i l = record {
  many : length l.history.events ≡ l.i;
  rest : with_lines l.history (map (λ line. line.now) (drop l.i l.lines)) ≡ with_lines (first_history l.fn.opening) (map (λ line. line.now) l.lines);
}
