-- The facts that each pass of a loop of `AttemptsByLine::new` keeps.
use Rattle.std.proofs.Common.{◌≡◌, [], map, replicate}
use Rattle.amo_run_log.proofs.attempts_by_line.AttemptsByLine.new.Given as goal

abbrev pub invariant-loop-journal : goal.invariant-loop-journal
invariant-loop-journal l = map (λ journal. journal.items) l.empty.items ≡ replicate l._journal []
