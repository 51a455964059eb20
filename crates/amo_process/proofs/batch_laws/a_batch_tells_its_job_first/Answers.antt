-- `a_batch_tells_its_job_first`: its promises, by the lemmas of Batches.
use Rattle.amo_process.proofs.Batches.{more_rests}
use Rattle.amo_process.proofs.batch_laws.a_batch_tells_its_job_first.Goals as goal

pub returns : goal.returns
returns c = λ g p heard v more s t rest o stands left after. (more_rests g p heard v more s t rest o stands left after).none
