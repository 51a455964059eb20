-- `read_each`: what its loop keeps and its promises, by the lemmas of TextLists.
use Rattle.std.proofs.Common.{Some, sym, ap, ◌∙◌, arith}
use Rattle.amo_run_log.proofs.TextLists.{reads_on, stops_at}
use Rattle.amo_run_log.proofs.reading.read_each.Goals as goal

pub loop-text-preserved : goal.loop-text-preserved
loop-text-preserved g c =
    reads_on g.T.FromText.said c.args.texts.now c.loop-text.text-index c.loop-text.found.items c.text-item.result c.in-Some.said c.loop-text-test.true c.text-item.is c.loop-text.invariant
    (ap g.T.FromText.said (sym c.deref.ensures.value) ∙ sym c.in-Some.ensures.exact)
    ∙ ap Some (sym c.in_ok-push.ensures.items)

pub returns-in_default-clause-refused : goal.returns-in_default-clause-refused
returns-in_default-clause-refused g c =
    stops_at g.T.FromText.said c.args.texts.now c.loop-text.text-index c.len.result c.loop-text.found.items c.text-item.result c.loop-text-test.true c.text-item.is c.loop-text.invariant
    (omega (arith, c.len.ensures)) (ap g.T.FromText.said (sym c.deref.ensures.value) ∙ sym c.in_default.ensures.exact)
