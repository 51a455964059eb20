-- `who_is_not_there_is_none`: its promises, by the lemmas of Told.
use Rattle.amo_judge.specs.declared.reasons.Reason.TheVariants.{NoWorker, NoJob}
use Rattle.amo_judge.proofs.Told.{said}
use Rattle.amo_judge.proofs.laws.who_is_not_there_is_none.Goals as goal

pub returns-clause-worker : goal.returns-clause-worker
returns-clause-worker c g before event p is = said g before event (NoWorker p) is

pub returns-clause-job : goal.returns-clause-job
returns-clause-job c g before event j is = said g before event (NoJob j) is
