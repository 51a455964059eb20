-- `history_is_a_run`: its promises, by the lemmas of Worlds and Runs.
use Rattle.amo_kk.proofs.Worlds.{always_lawful}
use Rattle.amo_kk.proofs.Runs.{always_runs}
use Rattle.amo_kk.proofs.laws.history_is_a_run.Goals as goal

pub returns-clause-lawful : goal.returns-clause-lawful
returns-clause-lawful c = λ g moves. always_lawful g moves g.limits

pub returns-clause-run : goal.returns-clause-run
returns-clause-run c = λ g moves. (always_runs g moves g.limits).0

pub returns-clause-agrees : goal.returns-clause-agrees
returns-clause-agrees c = λ g moves. (always_runs g moves g.limits).1
