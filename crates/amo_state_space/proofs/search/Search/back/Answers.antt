-- `Search::back`: the premises of its calls and what its type keeps, by the lemmas of WithinLemmas
-- (amo_plan) and Paths.
use Rattle.std.proofs.Common.{take, ap, ◌∙◌}
use Rattle.amo_plan.proofs.WithinLemmas.{in_range-take}
use Rattle.amo_state_space.proofs.Paths.{search_back}
use Rattle.amo_state_space.proofs.search.Search.back.Goals as goal

pub run-requires : goal.run-requires
run-requires c = rw (c.in_ok-world.ensures, c.givens.ensures, c.split_at.ensures.front, c.as_slice.ensures.value) (in_range-take c.self.inside.world.givens c.args.count _ c.self.invariant.in_range)

pub invariant_of-self : goal.invariant_of-self
invariant_of-self c = rw c.truncate.ensures.items (search_back _ c.args.count _ _ _ _ (rw c.givens.ensures c.self.invariant.in_range) c.in_ok-world.ensures (c.split_at.ensures.front ∙ ap (take c.args.count) c.as_slice.ensures.value) c.run.ensures)
