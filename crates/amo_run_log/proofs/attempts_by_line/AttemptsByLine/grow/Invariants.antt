-- The facts that each pass of a loop of `AttemptsByLine::grow` keeps.
use Rattle.std.proofs.Common.{◌≡◌, ◌≤◌, ◌⊎◌, length}
use Rattle.amo_run_log.proofs.attempts_by_line.AttemptsByLine.grow.Given as goal

abbrev pub invariant-loop-line : goal.invariant-loop-line
invariant-loop-line l =
    (l.self.journals ≡ l.fn.self.journals) × (length l.self.lines.items ≡ l._line) × ((l._line ≡ length l.fn.self.lines.items) ⊎ (l._line ≤ l.count)) × (length l.fn.self.lines.items ≤ l._line)
