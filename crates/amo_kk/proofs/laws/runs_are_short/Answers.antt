-- `runs_are_short`: its promises, by the lemmas of Room.
use Rattle.amo_kk.proofs.Room.{run_is_short}
use Rattle.amo_kk.proofs.laws.runs_are_short.Goals as goal

pub returns : goal.returns
returns c = λ g events run. run_is_short g events run
