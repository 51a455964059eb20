-- `choice_finds_a_job`: its promises, by the lemmas of FirstChoice.
use Rattle.amo_kk.proofs.FirstChoice.{choice_finds}
use Rattle.amo_kk.proofs.laws.choice_finds_a_job.Goals as goal

pub returns : goal.returns
returns c = λ g p r worker few many. choice_finds g p r worker few many
