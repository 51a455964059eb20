-- The facts that each pass of a loop of `filled` keeps.
use Rattle.std.proofs.Common.{◌≡◌, ◌-◌, ◌≤◌, vec_len, replicate}
use Rattle.std.specs.Vec.{vec_capacity}
use Rattle.amo_sets.proofs.lists.filled.Given as goal

abbrev pub invariant-loop-item : goal.invariant-loop-item
invariant-loop-item g l = record {
  room : vec_capacity l.list ≡ l.count;
  within : vec_len l.list ≤ l.count;
  items : l.list.items ≡ replicate (vec_len l.list) l.item;
}

abbrev pub decreases-loop-item : goal.decreases-loop-item
decreases-loop-item g l = l.count - vec_len l.list
