-- `everyone_rests`: its promises, by the lemmas of Rest and Rounds.
use Rattle.amo_bounds.proofs.Rest.{always_rests, always_gone}
use Rattle.amo_bounds.proofs.Rounds.{always_ends, always_stays}
use Rattle.amo_bounds.proofs.laws.everyone_rests.Goals as goal

pub returns-clause-all : goal.returns-clause-all
returns-clause-all c = λ g. always_rests g

pub returns-clause-each : goal.returns-clause-each
returns-clause-each c = λ g. always_gone g

pub returns-clause-ends : goal.returns-clause-ends
returns-clause-ends c = λ g. always_ends g

pub returns-clause-stayed : goal.returns-clause-stayed
returns-clause-stayed c = λ g. always_stays g
