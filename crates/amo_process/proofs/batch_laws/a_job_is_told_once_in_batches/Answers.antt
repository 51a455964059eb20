-- `a_job_is_told_once_in_batches`: its promises, by the lemmas of Batched.
use Rattle.amo_process.proofs.Batched.{batched_once}
use Rattle.amo_process.proofs.batch_laws.a_job_is_told_once_in_batches.Goals as goal

pub returns : goal.returns
returns c = λ g hs more p q j o m w x some first second. batched_once g hs more p q j o m w x some first second
