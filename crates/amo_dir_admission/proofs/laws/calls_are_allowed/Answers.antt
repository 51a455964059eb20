-- `calls_are_allowed`: its promises, by the lemmas of Steps.
use Rattle.amo_dir_admission.proofs.Steps.{calls_allowed}
use Rattle.amo_dir_admission.proofs.laws.calls_are_allowed.Goals as goal

pub returns : goal.returns
returns c = calls_allowed
