-- `mark`: what its loop keeps, by the lemmas of OpenLines.
use Rattle.std.proofs.Common.{false, get_or, arith}
use Rattle.amo_run_log.proofs.OpenLines.{marked}
use Rattle.amo_run_log.proofs.open.mark.Goals as goal

pub loop-i-preserved : goal.loop-i-preserved
loop-i-preserved c k lt =
    marked c.args.findings.now c.args.worker c.args.attempts.now c.loop-i.i _ _ (get_or c.loop-i.closed k false) (get_or c.mark_one.new.closed k false) _
    c.loop-i-test.true (c.loop-i.invariant k lt) (c.mark_one.ensures k (omega (arith, c.loop-i.auto.closed, lt)))
