-- `history_text`: the premises of its calls, by the lemmas of NextLine.
use Rattle.std.proofs.Common.{◌≤◌, List, length, subst}
use Rattle.amo_kk.specs.Object.{first_object}
use Rattle.amo_kk.specs.declared.event.Event.{Event}
use Rattle.amo_judge.proofs.NextLine.{bad_within}
use Rattle.amo_judge.proofs.judging.history_text.Goals as goal

pub bad_text-requires : goal.bad_text-requires
bad_text-requires c =
    let w = bad_within c.givens.result (first_object c.givens.result) c.events.result.now c.in-FirstBad.number (c.in_ok-judge.ensures.bad c.in-FirstBad.number c.in-FirstBad.is) in
    (w.0, subst (λ (es : List Event). c.in-FirstBad.number ≤ length es) c.events.ensures w.1)
