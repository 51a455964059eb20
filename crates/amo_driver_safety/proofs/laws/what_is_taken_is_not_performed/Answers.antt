-- `what_is_taken_is_not_performed`: its promises, by the lemmas of Intents.
use Rattle.std.proofs.Common.{refl, false}
use Rattle.amo_driver.specs.declared.model.Deed.TheVariants.{Cleared}
use Rattle.amo_driver_safety.specs.declared.model.Moment.TheVariants.{Does}
use Rattle.amo_driver_safety.proofs.Intents.{none_performed_then, none_taken_then}
use Rattle.amo_driver_safety.proofs.laws.what_is_taken_is_not_performed.Goals as goal

pub returns-clause-before : goal.returns-clause-before
returns-clause-before c = λ g before mid x p n m j h tries. none_taken_then g before mid x (Does p (Cleared m j false)) h p n m j tries refl

pub returns-clause-after : goal.returns-clause-after
returns-clause-after c = λ g before mid y p n m j h tries. none_performed_then g before mid (Does p (Cleared n j false)) y h p n m j refl tries
