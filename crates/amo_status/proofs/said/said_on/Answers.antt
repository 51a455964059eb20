-- `said_on`: what its loop keeps and its promises, by the lemmas of TextLists (amo_run_log).
use Rattle.std.proofs.Common.{map, Some, sym, ap, ◌∙◌, arith}
use Rattle.std.specs.Prelude.{option_map}
use Rattle.std.proofs.lemmas.List.{map_push, length-map}
use Rattle.amo_run_log.proofs.TextLists.{reads_on, stops_at}
use Rattle.amo_status.specs.Said.{said_by, said_in}
use Rattle.amo_status.proofs.said.said_on.Goals as goal

pub loop-line-preserved : goal.loop-line-preserved
loop-line-preserved c =
    reads_on said_in c.args.lines.now c.loop-line.line-index (map said_by c.loop-line.said.items) c.line-item.result (said_by c.in-Some.one) c.loop-line-test.true c.line-item.is c.loop-line.invariant
    (ap said_in (sym c.deref.ensures.value) ∙ sym c.in_ok-one.ensures ∙ ap (option_map said_by) c.in-Some.is)
    ∙ ap Some (sym (map_push said_by c.loop-line.said.items c.in-Some.one) ∙ ap (map said_by) (sym c.in_ok-push.ensures.items))

pub returns-in_default-clause-refused : goal.returns-in_default-clause-refused
returns-in_default-clause-refused c =
    let stop = stops_at said_in c.args.lines.now c.loop-line.line-index c.len.result (map said_by c.loop-line.said.items) c.line-item.result c.loop-line-test.true c.line-item.is c.loop-line.invariant
    (omega (arith, c.len.ensures, length-map c.loop-line.said.items said_by))
    (ap said_in (sym c.deref.ensures.value) ∙ sym c.in_ok-one.ensures ∙ ap (option_map said_by) c.in_default.is) in
    (stop.0.0, stop.0.1, stop.0.2, stop.1)
