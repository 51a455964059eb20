-- `an_end_is_told`: its promises, by the lemmas of Tells.
use Rattle.amo_c.proofs.Tells.{told_over, over_is_told}
use Rattle.amo_c.proofs.laws.an_end_is_told.Goals as goal

pub returns-clause-told : goal.returns-clause-told
returns-clause-told c = λ w t e. told_over w t e

pub returns-clause-ended : goal.returns-clause-ended
returns-clause-ended c = λ w t h. over_is_told w t h
