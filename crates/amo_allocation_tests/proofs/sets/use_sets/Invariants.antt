-- The facts that each pass of a loop of `use_sets` keeps.
use Rattle.std.proofs.Common.{◌≡◌, length}
use Rattle.amo_allocation_tests.proofs.sets.use_sets.Given as goal

abbrev pub invariant-loop-round : goal.invariant-loop-round
invariant-loop-round g l = (length l.set ≡ 130) × (length l.other ≡ 130)
