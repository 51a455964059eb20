-- `execute`: the premises of its calls, directly from definitions and clauses.
use Rattle.std.proofs.Common.{sym, ◌∙◌, subst}
use Rattle.amo_words.specs.Rule.{AllStand}
use Rattle.amo_words.specs.Faces.{spots}
use Rattle.amo_crew.proofs.executing.execute.Goals as goal

pub run_on-requires-clause-stand : goal.run_on-requires-clause-stand
run_on-requires-clause-stand g c κs within = let opened = c.in-Ok-try_new.ensures.opened in let book = c.in-Ok-try_new.book in
    subst (λ gg. AllStand gg book.view.seen (spots book)) (opened.givens ∙ sym c.requires.plan) opened.stand
