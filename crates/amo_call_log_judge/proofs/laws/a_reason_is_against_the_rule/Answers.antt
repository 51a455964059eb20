-- `a_reason_is_against_the_rule`: its promises, by the lemmas of Refuted.
use Rattle.amo_call_log_judge.proofs.Refuted.{refuted}
use Rattle.amo_call_log_judge.proofs.laws.a_reason_is_against_the_rule.Goals as goal

pub returns : goal.returns
returns c = refuted
