-- `note`: what its loop keeps, by the lemmas of Noting.
use Rattle.std.proofs.Common.{get_or, arith}
use Rattle.amo_status.specs.Standings.{open_standing}
use Rattle.amo_status.proofs.Noting.{noted}
use Rattle.amo_status.proofs.standing.note.Goals as goal

pub loop-i-preserved : goal.loop-i-preserved
loop-i-preserved c k lt =
    noted c.args.log.now.findings.now c.args.log.now.finals.now c.args.worker c.args.attempts.now c.loop-i.i _ _ (get_or c.loop-i.found k open_standing) (get_or c.note_one.new.found k open_standing) _
    c.loop-i-test.true (c.loop-i.invariant k lt) (c.note_one.ensures k (omega (arith, c.loop-i.auto.found, lt)))
