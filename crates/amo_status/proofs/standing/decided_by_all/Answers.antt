-- `decided_by_all`: what its loop keeps, by the lemmas of Noting.
use Rattle.std.proofs.Common.{◌≡◌, ◌∙◌, ◌+◌, get_or, ap}
use Rattle.amo_status.specs.Deciding.{decided_from}
use Rattle.amo_status.specs.Standings.{closing_in}
use Rattle.amo_status.proofs.Noting.{noted_by}
use Rattle.amo_status.proofs.standing.decided_by_all.Goals as goal

pub loop-p-preserved : goal.loop-p-preserved
loop-p-preserved c =
    let journal : c.deref.result.now ≡ (get_or c.args.log.now.journals.now c.loop-p.p c.index-journals-p.result).items = c.deref.ensures.value ∙ ap (λ v. v.items) c.index-journals-p.is in
    noted_by c.args.log.now.findings.now c.args.log.now.finals.now c.args.log.now.journals.now c.loop-p.p c.args.line c.index-journals-p.result c.loop-p.standing _ _ c.loop-p-test.true c.loop-p.invariant
    (c.decided_by-standing.ensures ∙ ap (λ es. decided_from c.loop-p.standing (closing_in c.args.log.now.findings.now c.args.log.now.finals.now (c.loop-p.p + 1) 1 es c.args.line)) journal)
