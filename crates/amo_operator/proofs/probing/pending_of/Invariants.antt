-- The facts that each pass of a loop of `pending_of` keeps.
use Rattle.std.proofs.Common.{◌≡◌, ◌++◌, drop, map}
use Rattle.amo_operator.specs.Knowing.{pending_of}
use Rattle.amo_operator.proofs.probing.pending_of.Given as goal

abbrev pub invariant-loop-worker : goal.invariant-loop-worker
invariant-loop-worker l =
    pending_of l.workers (map (λ journal. journal.items) l.journals) ≡ l.left.items ++ pending_of (drop l.worker-index l.workers) (map (λ journal. journal.items) l.journals)
