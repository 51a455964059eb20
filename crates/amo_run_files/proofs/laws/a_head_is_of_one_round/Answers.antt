-- `a_head_is_of_one_round`: its promises, by the lemmas of HeadLaws.
use Rattle.amo_run_files.proofs.HeadLaws.{one_round}
use Rattle.amo_run_files.proofs.laws.a_head_is_of_one_round.Goals as goal

pub returns : goal.returns
returns c one other head is_one is_other h k = one_round one other head is_one is_other h k
