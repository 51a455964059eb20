-- `no_two_have_one_seat`: its promises, by the lemmas of Once.
use Rattle.amo_run_safety.proofs.Once.{seats_differ}
use Rattle.amo_run_safety.proofs.laws.no_two_have_one_seat.Goals as goal

pub returns : goal.returns
returns c = λ es p o k q run here there. seats_differ es run p o k q here there
