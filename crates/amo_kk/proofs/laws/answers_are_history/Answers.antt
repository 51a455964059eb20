-- `answers_are_history`: its promises, by the lemmas of Shows.
use Rattle.amo_kk.proofs.Shows.{turn_history, idle, left_history, kept_in_hand, gone_stays}
use Rattle.amo_kk.proofs.laws.answers_are_history.Goals as goal

pub returns-clause-turn : goal.returns-clause-turn
returns-clause-turn c = λ g w p here. turn_history g w p here

pub returns-clause-idle : goal.returns-clause-idle
returns-clause-idle c = λ g w p gone. idle g w p gone

pub returns-clause-left : goal.returns-clause-left
returns-clause-left c = λ w p h. left_history w p h

pub returns-clause-in_hand : goal.returns-clause-in_hand
returns-clause-in_hand c = λ w p j h. kept_in_hand w p j h

pub returns-clause-gone : goal.returns-clause-gone
returns-clause-gone c = λ w p h. gone_stays w p h
