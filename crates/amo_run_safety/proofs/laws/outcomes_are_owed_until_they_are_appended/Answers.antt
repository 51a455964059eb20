-- `outcomes_are_owed_until_they_are_appended`: its promises, by the lemmas of Example and Owing.
use Rattle.std.proofs.Common.{refl}
use Rattle.amo_run_safety.proofs.Example.{pending}
use Rattle.amo_run_safety.proofs.Owing.{answered, asked_again, lost_run, known, paid_run, first_done, next_run}
use Rattle.amo_run_safety.proofs.laws.outcomes_are_owed_until_they_are_appended.Goals as goal

pub returns-clause-lost : goal.returns-clause-lost
returns-clause-lost c = (answered, pending, asked_again, lost_run, refl, refl, refl)

pub returns-clause-alone : goal.returns-clause-alone
returns-clause-alone c = (answered, known, paid_run, refl, refl)

pub returns-clause-next : goal.returns-clause-next
returns-clause-next c = (first_done, next_run, refl, refl, refl)
