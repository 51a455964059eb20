-- The facts that each pass of a loop of `blocks_of` keeps.
use Rattle.std.proofs.Common.{◌≡◌, ◌++◌, ◌-◌}
use Rattle.std.specs.Vec.Iter.{into_iter_items}
use Rattle.amo_plan.specs.Blocks.{blocks_from, blocks_of}
use Rattle.amo_plan.proofs.block.blocks_of.Given as goal

-- the blocks so far, and those to come
abbrev pub invariant-loop-i : goal.invariant-loop-i
invariant-loop-i l = l.blocks.items ++ blocks_from (l.count - l._i) l.block (into_iter_items l.tasks) ≡ blocks_of l.block l.fn.tasks.items
