-- `one_outcome_is_owed_at_most`: its promises, by the lemmas of Debts.
use Rattle.amo_run_safety.proofs.Debts.{one_at_most, only_inside}
use Rattle.amo_run_safety.proofs.laws.one_outcome_is_owed_at_most.Goals as goal

pub returns-clause-few : goal.returns-clause-few
returns-clause-few c = λ es p run. one_at_most es p run

pub returns-clause-outside : goal.returns-clause-outside
returns-clause-outside c = λ es p run away. only_inside es p run away
