-- `push_json_row`: its promises, by the lemmas of RowSteps.
use Rattle.std.proofs.Common.{[], List, ℕ, Bor, map, get_or, sym, ap, ◌∙◌}
use Rattle.std.proofs.lemmas.Result.{on_ok_weaker}
use Rattle.amo_status.specs.Json.{text_or_null}
use Rattle.amo_status.proofs.RowSteps.{row_put}
use Rattle.amo_status.proofs.objects.push_json_row.Goals as goal

pub returns : goal.returns
returns c =
    let texts = map (λ (t : Bor (List ℕ)). t.now) c.args.texts.now in
    on_ok_weaker c.push_parts.result
    (λ put. row_put c.args.text.now.items c.push_comma.new.text.items c.push_parts.new.text.items c.as_bytes.result.now c.as_bytes-2.result.now c.as_bytes-3.result.now c.args.clock c.args.later _ c.args.standing.now (get_or texts c.args.i [])
    (sym c.is_shown.ensures ∙ c.if-not-is_shown.false) c.in_ok-push_comma.ensures put
    (c.as_bytes.ensures.value ∙ c.in_ok-head.ensures) (c.as_bytes-2.ensures.value ∙ c.in_ok-middle.ensures ∙ ap text_or_null c.text_at.ensures) (c.as_bytes-3.ensures.value ∙ c.in_ok-tail.ensures))
    c.push_parts.ensures
