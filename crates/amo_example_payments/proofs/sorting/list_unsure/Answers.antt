-- `list_unsure`: what its loop keeps, by the lemmas of Sorts.
use Rattle.std.proofs.Common.{◌||◌, filter, not, ap, ◌∙◌, sym, arith}
use Rattle.std.specs.BTreeSet.{contains}
use Rattle.std.specs.Ordering.{nat_cmp}
use Rattle.amo_example_payments.proofs.Sorts.{enumerate_more}
use Rattle.amo_example_payments.proofs.sorting.list_unsure.Goals as goal

pub loop-before-preserved : goal.loop-before-preserved
loop-before-preserved c =
    let before = c.loop-before.invariant in
    let more = enumerate_more 1 c.args.ids.now c.loop-before.before 0 (omega arith) in
    (c.add_unsure.ensures.listed _ before.0 ∙ ap (filter (λ t. not (contains nat_cmp c.args.paid.now t.0 || contains nat_cmp c.args.free.now t.0))) (sym more), omega (arith, before.1, c.add_unsure.ensures.len), c.add_unsure.ensures.capacity ∙ before.2)
