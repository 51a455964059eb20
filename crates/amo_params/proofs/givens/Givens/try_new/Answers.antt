-- `Givens::try_new`: its promises, by the lemmas of Faults.
use Rattle.amo_params.proofs.Faults.{givens_within}
use Rattle.amo_params.proofs.givens.Givens.try_new.Goals as goal

pub returns : goal.returns
returns c = givens_within _ _ _ _
