-- `unmarked`: what its loop keeps, by the lemmas of OpenLines.
use Rattle.std.proofs.Common.{◌∙◌, ◌+◌, ◌++◌, ◌∷◌, [], sym, ap}
use Rattle.amo_run_log.proofs.OpenLines.{pushed, passed_over}
use Rattle.amo_run_log.proofs.open.unmarked.Goals as goal
use Rattle.amo_run_log.proofs.open.unmarked.Goals.{then-not-is_closed+in_ok-push, else-not-is_closed}

pub loop-k-preserved : goal.loop-k-preserved
loop-k-preserved c p is = elim c.if-not-is_closed.branch [
  | then-not-is_closed+in_ok-push w ↦
      ap (λ v. v.items) w.lines-is ∙ w.in_ok-push.ensures.items ∙ ap (λ l. l ++ (c.loop-k.k + 1) ∷ []) (c.loop-k.invariant p is)
      ∙ sym (pushed p c.loop-k.k (sym (is c.loop-k.k c.loop-k-test.true) ∙ w.if-not-is_closed.true))
  | else-not-is_closed w ↦
      ap (λ v. v.items) w.lines-is ∙ c.loop-k.invariant p is
      ∙ sym (passed_over p c.loop-k.k (sym (is c.loop-k.k c.loop-k-test.true) ∙ w.if-not-is_closed.false))
]
