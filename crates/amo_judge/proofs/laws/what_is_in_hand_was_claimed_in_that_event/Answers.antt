-- `what_is_in_hand_was_claimed_in_that_event`: its promises, by the lemmas of Told.
use Rattle.amo_judge.specs.declared.reasons.Reason.TheVariants.{InHand}
use Rattle.amo_judge.proofs.Told.{said}
use Rattle.amo_judge.proofs.laws.what_is_in_hand_was_claimed_in_that_event.Goals as goal

pub returns-clause-hand : goal.returns-clause-hand
returns-clause-hand c g before event p j i is = let s = said g before event (InHand p j i) is in (s.0, s.1)

pub returns-clause-claim : goal.returns-clause-claim
returns-clause-claim c g before event p j i is = (said g before event (InHand p j i) is).2

pub returns-clause-later : goal.returns-clause-later
returns-clause-later c g before event p j i is later job behind = (said g before event (InHand p j i) is).3 later job behind
