-- `what_is_taken_is_noted_as_unbegun`: its promises, by the lemmas of Farewell.
use Rattle.amo_driver_safety.proofs.Farewell.{passes_over}
use Rattle.amo_driver_safety.proofs.laws.what_is_taken_is_noted_as_unbegun.Goals as goal

pub returns : goal.returns
returns c = passes_over
