-- `a_history_is_one_of_two`: its promises, by the lemmas of Begins.
use Rattle.amo_judge.proofs.Begins.{one_of_two}
use Rattle.amo_judge.proofs.laws.a_history_is_one_of_two.Goals as goal

pub returns : goal.returns
returns c text h t = one_of_two text h t
