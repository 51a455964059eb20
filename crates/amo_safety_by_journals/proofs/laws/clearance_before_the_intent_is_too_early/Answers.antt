-- `clearance_before_the_intent_is_too_early`: its promises, by the lemmas of Twice.
use Rattle.amo_safety_by_journals.proofs.Twice.{before_the_intent}
use Rattle.amo_safety_by_journals.proofs.laws.clearance_before_the_intent_is_too_early.Goals as goal

pub returns : goal.returns
returns c = before_the_intent
