-- `blocks_of`: what its loop keeps, by the lemmas of BlocksLemmas.
use Rattle.std.proofs.Common.{◌≡◌, [], ◌∷◌, ◌++◌, take}
use Rattle.std.specs.Vec.Iter.{into_iter_items}
use Rattle.amo_plan.proofs.BlocksLemmas.{blocks_next}
use Rattle.amo_plan.proofs.block.blocks_of.Goals as goal

pub loop-i-preserved : goal.loop-i-preserved
loop-i-preserved c =
    let items : c.push.new.self.items ≡ c.loop-i.blocks.items ++ take c.args.block (into_iter_items c.loop-i.tasks) ∷ [] =
    rw (c.in_ok-new.ensures, c.in_ok-taken.ensures.taken) at c.in_ok-push.ensures.items in
    rw (items, c.in_ok-taken.ensures.rest) (blocks_next c.div_ceil-count.result c.loop-i._i c.args.block _ _ _ c.loop-i-test.true c.loop-i.invariant)
