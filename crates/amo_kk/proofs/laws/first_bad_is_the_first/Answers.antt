-- `first_bad_is_the_first`: its promises, by the lemmas of Claims.
use Rattle.amo_kk.proofs.Claims.{first_bad_run, run_first_bad, first_bad_is}
use Rattle.amo_kk.proofs.laws.first_bad_is_the_first.Goals as goal

pub returns-clause-run : goal.returns-clause-run
returns-clause-run c = λ g s events. (first_bad_run g s events, run_first_bad g s events)

pub returns-clause-bad : goal.returns-clause-bad
returns-clause-bad c = λ g s events i h. first_bad_is g s events i h
