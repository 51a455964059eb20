-- `a_text_is_the_log_of_one_list`: its promises, by the lemmas of Logs.
use Rattle.amo_call_log_judge.proofs.Logs.{same_log}
use Rattle.amo_call_log_judge.proofs.laws.a_text_is_the_log_of_one_list.Goals as goal

pub returns : goal.returns
returns c = same_log
