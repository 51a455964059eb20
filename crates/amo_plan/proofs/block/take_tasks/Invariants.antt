-- The facts that each pass of a loop of `take_tasks` keeps.
use Rattle.std.proofs.Common.{◌≡◌, ◌++◌, length}
use Rattle.std.specs.Vec.Iter.{into_iter_items}
use Rattle.amo_plan.proofs.block.take_tasks.Given as goal

-- what was taken stood before what is left
abbrev pub invariant-loop-i : goal.invariant-loop-i
invariant-loop-i l = record {
  whole : l.taken.items ++ into_iter_items l.tasks ≡ into_iter_items l.fn.tasks;
  count : length l.taken.items ≡ l._i;
}
