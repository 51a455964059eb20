-- The facts that each pass of a loop of `mark_all` keeps.
use Rattle.std.proofs.Common.{◌≡◌, ℕ, ◌+◌, ◌<◌, ◌||◌, false, length, get_or, drop, map}
use Rattle.amo_run_log.specs.Open.{closed_by}
use Rattle.amo_run_log.proofs.open.mark_all.Given as goal

abbrev pub invariant-loop-p : goal.invariant-loop-p
invariant-loop-p l = (k : ℕ) → k < length l.fn.closed → (get_or l.closed k false || closed_by l.findings (l.p + 1) (map (λ journal. journal.items) (drop l.p l.journals)) (k + 1)) ≡ (get_or l.fn.closed k false || closed_by l.findings 1 (map (λ journal. journal.items) l.journals) (k + 1))
