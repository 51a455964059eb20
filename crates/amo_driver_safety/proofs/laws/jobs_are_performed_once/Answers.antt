-- `jobs_are_performed_once`: its promises, by the lemmas of Once.
use Rattle.amo_driver_safety.proofs.Once.{handed_once}
use Rattle.amo_driver_safety.proofs.laws.jobs_are_performed_once.Goals as goal

pub returns : goal.returns
returns c = handed_once
