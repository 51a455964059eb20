-- `items_are_steps`: its promises, by the lemmas of Batches.
use Rattle.amo_process.proofs.Batches.{item_is_step}
use Rattle.amo_process.proofs.batch_laws.items_are_steps.Goals as goal

pub returns : goal.returns
returns c = λ g s p heard more from t item rest o list stands left now. item_is_step g s p heard more from t item rest o list stands left now
