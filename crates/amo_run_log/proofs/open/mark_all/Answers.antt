-- `mark_all`: what its loop keeps, by the lemmas of OpenLines.
use Rattle.std.proofs.Common.{◌≡◌, ◌∙◌, ◌+◌, ◌||◌, false, get_or, ap, arith}
use Rattle.amo_run_log.specs.Open.{any_closes}
use Rattle.amo_run_log.proofs.OpenLines.{marked_by}
use Rattle.amo_run_log.proofs.open.mark_all.Goals as goal

pub loop-p-preserved : goal.loop-p-preserved
loop-p-preserved c k lt =
    let journal : c.deref.result.now ≡ (get_or c.args.journals.now c.loop-p.p c.index-journals-p.result).items = c.deref.ensures.value ∙ ap (λ v. v.items) c.index-journals-p.is in
    marked_by c.args.findings.now c.args.journals.now c.loop-p.p (k + 1) c.index-journals-p.result (get_or c.loop-p.closed k false) (get_or c.mark.new.closed k false) _
    c.loop-p-test.true (c.loop-p.invariant k lt)
    (c.mark.ensures k (omega (arith, c.loop-p.auto.closed, lt)) ∙ ap (λ es. get_or c.loop-p.closed k false || any_closes c.args.findings.now (c.loop-p.p + 1) 1 es (k + 1)) journal)
