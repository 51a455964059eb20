-- `a_job_in_hand_is_told`: its promises, by the lemmas of Tells.
use Rattle.amo_c.proofs.Tells.{told_performs, told_doubts, told_hand}
use Rattle.amo_c.proofs.laws.a_job_in_hand_is_told.Goals as goal

pub returns-clause-performs : goal.returns-clause-performs
returns-clause-performs c = λ w t. told_performs w t

pub returns-clause-doubts : goal.returns-clause-doubts
returns-clause-doubts c = λ w t. told_doubts w t

pub returns-clause-in_hand : goal.returns-clause-in_hand
returns-clause-in_hand c = λ w l fresh. told_hand w l fresh
