-- `no_reason_before_it_holds`: its promises, by the lemmas of Order.
use Rattle.amo_judge.specs.declared.reasons.Reason.TheVariants.{Gone, NoJob, InHand, NotInHand, ClaimedBefore, Early}
use Rattle.amo_judge.proofs.Order.{passed}
use Rattle.amo_judge.proofs.laws.no_reason_before_it_holds.Goals as goal

pub returns-clause-gone : goal.returns-clause-gone
returns-clause-gone c g before event end p i is = passed g before event (Gone p end i) is

pub returns-clause-job : goal.returns-clause-job
returns-clause-job c g before event j is = passed g before event (NoJob j) is

pub returns-clause-in_hand : goal.returns-clause-in_hand
returns-clause-in_hand c g before event p j i is = passed g before event (InHand p j i) is

pub returns-clause-not_in_hand : goal.returns-clause-not_in_hand
returns-clause-not_in_hand c g before event p j is = passed g before event (NotInHand p j) is

pub returns-clause-claimed : goal.returns-clause-claimed
returns-clause-claimed c g before event j q i is = passed g before event (ClaimedBefore j q i) is

pub returns-clause-early : goal.returns-clause-early
returns-clause-early c g before event performed least is = passed g before event (Early performed least) is
