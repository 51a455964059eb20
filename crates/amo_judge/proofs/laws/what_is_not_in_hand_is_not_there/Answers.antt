-- `what_is_not_in_hand_is_not_there`: its promises, by the lemmas of Told.
use Rattle.amo_judge.specs.declared.reasons.Reason.TheVariants.{NotInHand}
use Rattle.amo_judge.proofs.Told.{said}
use Rattle.amo_judge.proofs.laws.what_is_not_in_hand_is_not_there.Goals as goal

pub returns : goal.returns
returns c g before event p j fails is = said g before event (NotInHand p j) is fails
