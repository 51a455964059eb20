-- `read_log`: its promises, by the lemmas of Logs.
use Rattle.std.proofs.Common.{ℕ, List, map, Bor, ap, ◌∙◌}
use Rattle.std.proofs.lemmas.Result.{IfOk-weaker}
use Rattle.amo_call_log_judge.proofs.Logs.{read_is}
use Rattle.amo_call_log_judge.proofs.reading.read_log.Goals as goal

pub returns : goal.returns
returns c =
    let now : List (Bor (List ℕ)) → List (List ℕ) = λ parts. map (λ part. part.now) parts in
    IfOk-weaker c.events_of_parts.result _ _ (λ read is. read_is c.args.text.now (now c.as_slice.result.now) read (ap now c.as_slice.ensures.value ∙ c.in_ok-parts.ensures.parts) is) c.events_of_parts.ensures
