-- `log_text`: the premises of its calls and its promises, directly from definitions and clauses.
use Rattle.std.proofs.lemmas.Result.{IfOk-weaker}
use Rattle.amo_call_log_judge.proofs.telling.log_text.Goals as goal

pub judge_run-requires : goal.judge_run-requires
judge_run-requires c = c.requires.log.all

pub returns : goal.returns
returns c = IfOk-weaker c.verdict_text.result _ _ (λ answer all. all c.args.text.now c.requires.log) c.verdict_text.ensures
