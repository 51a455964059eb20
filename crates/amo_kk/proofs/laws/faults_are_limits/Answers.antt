-- `faults_are_limits`: its promises, by the lemmas of Faults (amo_params).
use Rattle.amo_params.specs.Limits.{within_limits}
use Rattle.amo_params.proofs.Faults.{limits_break_none}
use Rattle.amo_kk.proofs.laws.faults_are_limits.Goals as goal

pub returns : goal.returns
returns c = λ jobs workers beta. (within_limits jobs workers beta, limits_break_none jobs workers beta)
