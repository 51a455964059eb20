-- `an_intent_is_handed_over_once`: its promises, by the lemmas of Named.
use Rattle.amo_run_safety.proofs.Named.{handed_once}
use Rattle.amo_run_safety.proofs.laws.an_intent_is_handed_over_once.Goals as goal

pub returns : goal.returns
returns c = handed_once
