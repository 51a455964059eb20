-- `a_job_is_handed_over_by_its_intent`: its promises, by the lemmas of Intents.
use Rattle.amo_driver_safety.proofs.Intents.{one_intent, no_intent_after, by_its_intent}
use Rattle.amo_driver_safety.proofs.laws.a_job_is_handed_over_by_its_intent.Goals as goal

pub returns-clause-one : goal.returns-clause-one
returns-clause-one c = λ g before mid x y n m j h. one_intent g before mid x y h n m j

pub returns-clause-before : goal.returns-clause-before
returns-clause-before c = λ g before mid x y n m j h. no_intent_after g before mid x y h n m j

pub returns-clause-its : goal.returns-clause-its
returns-clause-its c = λ g before mid x y n m j h. by_its_intent g before mid x y h n m j
