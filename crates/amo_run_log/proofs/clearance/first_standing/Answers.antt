-- `first_standing`: what its loop keeps, by the lemmas of ByLine.
use Rattle.std.proofs.Common.{arith}
use Rattle.amo_run_log.proofs.ByLine.{attempts_in, from_more}
use Rattle.amo_run_log.proofs.clearance.first_standing.Goals as goal

pub loop-id-preserved : goal.loop-id-preserved
loop-id-preserved c = (
  c.earlier-first.ensures.standing c.loop-id.invariant.0,
  from_more c.args.findings.now (attempts_in c.args.journals.now) c.args.own c.args.line c.args.ids.now c.loop-id.id-index _ c.loop-id.first c.earlier-first.result (omega arith) c.loop-id.invariant.1 c.earlier-first.ensures.first c.earlier-first.ensures.stays,
)
