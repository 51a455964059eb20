-- `claims_are_dones_and_in_hand`: its promises, directly from definitions and clauses.
use Rattle.amo_kk.proofs.laws.claims_are_dones_and_in_hand.Goals as goal

pub returns-clause-list : goal.returns-clause-list
returns-clause-list c = λ g w p law worker. (law.lawful.sound p worker).local.claims

pub returns-clause-distinct : goal.returns-clause-distinct
returns-clause-distinct c = λ g w p law worker. (law.lawful.sound p worker).local.distinct
