-- `a_taken_intent_is_over`: its promises, by the lemmas of Taken.
use Rattle.amo_run_safety.proofs.Taken.{taken_is_over}
use Rattle.amo_run_safety.proofs.laws.a_taken_intent_is_over.Goals as goal

pub returns : goal.returns
returns c = λ p n time j before after may. taken_is_over p n time j before after may
