-- `who_ends_early_ends_below_the_bound`: its promises, by the lemmas of Told.
use Rattle.amo_judge.specs.declared.reasons.Reason.TheVariants.{Early}
use Rattle.amo_judge.proofs.Told.{said}
use Rattle.amo_judge.proofs.laws.who_ends_early_ends_below_the_bound.Goals as goal

pub returns : goal.returns
returns c g before event performed least fails is = said g before event (Early performed least) is fails
