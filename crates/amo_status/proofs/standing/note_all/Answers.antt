-- `note_all`: what its loop keeps, by the lemmas of Noting.
use Rattle.std.proofs.Common.{◌≡◌, ◌∙◌, ◌+◌, get_or, ap, arith}
use Rattle.amo_status.specs.Deciding.{decided_from}
use Rattle.amo_status.specs.Standings.{open_standing, closing_in}
use Rattle.amo_status.proofs.Noting.{noted_by}
use Rattle.amo_status.proofs.standing.note_all.Goals as goal

pub loop-p-preserved : goal.loop-p-preserved
loop-p-preserved c k lt =
    let journal : c.deref.result.now ≡ (get_or c.args.log.now.journals.now c.loop-p.p c.index-journals-p.result).items = c.deref.ensures.value ∙ ap (λ v. v.items) c.index-journals-p.is in
    noted_by c.args.log.now.findings.now c.args.log.now.finals.now c.args.log.now.journals.now c.loop-p.p (k + 1) c.index-journals-p.result (get_or c.loop-p.found k open_standing) (get_or c.note.new.found k open_standing) _
    c.loop-p-test.true (c.loop-p.invariant k lt)
    (c.note.ensures k (omega (arith, c.loop-p.auto.found, lt)) ∙ ap (λ es. decided_from (get_or c.loop-p.found k open_standing) (closing_in c.args.log.now.findings.now c.args.log.now.finals.now (c.loop-p.p + 1) 1 es (k + 1))) journal)
