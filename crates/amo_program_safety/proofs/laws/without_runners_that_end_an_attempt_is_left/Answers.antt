-- `without_runners_that_end_an_attempt_is_left`: its promises, by the lemmas of Reported.
use Rattle.amo_program_safety.proofs.Reported.{an_attempt_is_left}
use Rattle.amo_program_safety.proofs.laws.without_runners_that_end_an_attempt_is_left.Goals as goal

pub returns : goal.returns
returns c = an_attempt_is_left
