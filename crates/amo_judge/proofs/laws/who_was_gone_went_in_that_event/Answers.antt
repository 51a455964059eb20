-- `who_was_gone_went_in_that_event`: its promises, by the lemmas of Told.
use Rattle.amo_judge.specs.declared.reasons.Reason.TheVariants.{Gone}
use Rattle.amo_judge.proofs.Told.{said}
use Rattle.amo_judge.proofs.laws.who_was_gone_went_in_that_event.Goals as goal

pub returns : goal.returns
returns c g before event end p i is = said g before event (Gone p end i) is
