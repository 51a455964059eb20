-- `a_run_is_called_a_run`: its promises, by the lemmas of Outcomes.
use Rattle.amo_call_log_judge.proofs.Outcomes.{called_a_run}
use Rattle.amo_call_log_judge.proofs.laws.a_run_is_called_a_run.Goals as goal

pub returns : goal.returns
returns c = called_a_run
