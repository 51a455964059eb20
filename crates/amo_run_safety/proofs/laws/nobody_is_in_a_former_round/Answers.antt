-- `nobody_is_in_a_former_round`: its promises, by the lemmas of Once.
use Rattle.amo_run_safety.proofs.Once.{in_last}
use Rattle.amo_run_safety.proofs.laws.nobody_is_in_a_former_round.Goals as goal

pub returns : goal.returns
returns c = λ es p k q run at. in_last es run p k q at
