-- `make_move`: the premises of its calls, by the lemmas of WithinLemmas (amo_plan).
use Rattle.amo_plan.proofs.WithinLemmas.{one_in_range}
use Rattle.amo_trace.proofs.transitions.make_move.Goals as goal

pub run-requires : goal.run-requires
run-requires c = one_in_range c.args.world.now.givens c.args.one c.requires
