-- `an_access_is_a_step`: its promises, by the lemmas of Accesses.
use Rattle.amo_process.specs.Shared.{standing_at}
use Rattle.amo_process.proofs.Accesses.{access_is_step}
use Rattle.amo_process.proofs.laws.an_access_is_a_step.Goals as goal

pub returns : goal.returns
returns c = λ g s p. access_is_step g s p (standing_at g s p)
