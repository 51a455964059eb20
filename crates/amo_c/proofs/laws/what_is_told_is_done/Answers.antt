-- `what_is_told_is_done`: its promises, by the lemmas of Tells.
use Rattle.amo_c.proofs.Tells.{told_steps, told_leaves, told_stays}
use Rattle.amo_c.proofs.laws.what_is_told_is_done.Goals as goal

pub returns-clause-steps : goal.returns-clause-steps
returns-clause-steps c = λ w s t e. told_steps w s t e

pub returns-clause-leaves : goal.returns-clause-leaves
returns-clause-leaves c = λ w s t n e is. told_leaves w s t n e is

pub returns-clause-stays : goal.returns-clause-stays
returns-clause-stays c = λ w s t x e is. told_stays w s t x e is
