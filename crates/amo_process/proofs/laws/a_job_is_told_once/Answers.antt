-- `a_job_is_told_once`: its promises, by the lemmas of Told.
use Rattle.amo_process.proofs.Told.{told_once}
use Rattle.amo_process.proofs.laws.a_job_is_told_once.Goals as goal

pub returns : goal.returns
returns c = λ g hs more p q j o m w x some first second. told_once g hs more p q j o m w x some first second
