-- `run_judgement`: its promises, by the lemmas of Outcomes.
use Rattle.std.proofs.Common.{string_bytes, subst}
use Rattle.std.proofs.lemmas.Result.{IfOk-weaker}
use Rattle.amo_call_log_judge.specs.Judgement.{IsRead}
use Rattle.amo_call_log_judge.proofs.Outcomes.{refused_answer}
use Rattle.amo_call_log_judge.proofs.telling.run_judgement.Goals as goal

pub returns-in-Err : goal.returns-in-Err
returns-in-Err c =
    IfOk-weaker c.refused_text.result _ _
    (λ answer told. refused_answer c.args.text.now c.in-Err.refusal (string_bytes answer) (subst (IsRead c.args.text.now) c.in-Err.is c.in_ok-events.ensures) told)
    c.refused_text.ensures
