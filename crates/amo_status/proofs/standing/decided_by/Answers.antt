-- `decided_by`: what its loop keeps, by the lemmas of Noting.
use Rattle.amo_status.proofs.Noting.{noted}
use Rattle.amo_status.proofs.standing.decided_by.Goals as goal

pub loop-i-preserved : goal.loop-i-preserved
loop-i-preserved c =
    noted c.args.log.now.findings.now c.args.log.now.finals.now c.args.worker c.args.attempts.now c.loop-i.i c.args.line _ c.loop-i.standing _ _ c.loop-i-test.true c.loop-i.invariant c.decided_with-standing.ensures
