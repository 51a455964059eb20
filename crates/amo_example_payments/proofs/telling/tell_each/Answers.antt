-- `tell_each`: its promises, by the lemmas of Fronts.
use Rattle.amo_example_payments.proofs.Fronts.{wrote}
use Rattle.amo_example_payments.proofs.telling.tell_each.Goals as goal

pub returns-clause-memory : goal.returns-clause-memory
returns-clause-memory g c = wrote _ _ c.write_out.result c.write_out.ensures.fault
