-- The facts that each pass of a loop of `mark` keeps.
use Rattle.std.proofs.Common.{◌≡◌, ℕ, ◌+◌, ◌<◌, ◌||◌, false, length, get_or, drop}
use Rattle.amo_run_log.specs.Open.{any_closes}
use Rattle.amo_run_log.proofs.open.mark.Given as goal

abbrev pub invariant-loop-i : goal.invariant-loop-i
invariant-loop-i l = (k : ℕ) → k < length l.fn.closed → (get_or l.closed k false || any_closes l.findings l.worker (l.i + 1) (drop l.i l.attempts) (k + 1)) ≡ (get_or l.fn.closed k false || any_closes l.findings l.worker 1 l.attempts (k + 1))
