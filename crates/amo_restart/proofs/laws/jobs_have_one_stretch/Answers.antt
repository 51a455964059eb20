-- `jobs_have_one_stretch`: its promises, by the lemmas of Once.
use Rattle.amo_restart.proofs.Once.{one_stretch}
use Rattle.amo_restart.proofs.laws.jobs_have_one_stretch.Goals as goal

pub returns : goal.returns
returns c = λ g xs ys p q j story some first second. one_stretch g xs ys p q j story some first second
