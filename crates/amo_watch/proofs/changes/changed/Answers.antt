-- `changed`: what its loop keeps, by the lemmas of Steps.
use Rattle.amo_watch.proofs.Steps.{changed_more}
use Rattle.amo_watch.proofs.changes.changed.Goals as goal

pub loop-i-preserved : goal.loop-i-preserved
loop-i-preserved c =
    changed_more c.args.shown.now c.args.rows.now c.loop-i.i _ c.loop-i.found.items _ _
    c.loop-i-test.true c.loop-i.invariant c.in_ok-push_unless_shown.ensures
