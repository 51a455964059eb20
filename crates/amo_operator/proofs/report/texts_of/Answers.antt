-- `texts_of`: what its loop keeps, by the lemmas of Lines.
use Rattle.std.proofs.Common.{◌≡◌, ◌+◌, ◌++◌, ◌∷◌, [], drop, map, sym, ap, subst, arith, ◌∙◌}
use Rattle.amo_operator.proofs.Lines.{one_more}
use Rattle.amo_operator.proofs.report.texts_of.Goals as goal

pub loop-k-preserved : goal.loop-k-preserved
loop-k-preserved c =
    let lines = c.args.jobs.now in
    let texts = c.loop-k.texts.items in
    let items : c.push.new.self.items ≡ texts ++ c.unwrap_or.result ∷ [] = c.in_ok-push.ensures.items in
    subst (λ ts. lines ≡ map (λ t. t.now) ts ++ drop (c.loop-k.k + 1) lines) (sym (items ∙ ap (λ x. texts ++ x ∷ []) c.unwrap_or.ensures))
    (one_more (λ t. t.now) lines c.loop-k.k (c.loop-k.k + 1) (omega arith) (omega (arith, c.loop-k-test.true, c.count-k-end.ensures.count)) texts c.loop-k.invariant c.line.result _ c.line.ensures)
