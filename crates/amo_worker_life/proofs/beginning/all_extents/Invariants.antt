-- The facts that each pass of a loop of `all_extents` keeps.
use Rattle.std.proofs.Common.{◌≡◌, ◌∷◌}
use Rattle.amo_worker_life.proofs.beginning.all_extents.Given as goal

abbrev pub invariant-loop-extent : goal.invariant-loop-extent
invariant-loop-extent l = l.extents.items ≡ l.fn.of_jobs ∷ l.yielded
