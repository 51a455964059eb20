-- `an_attempt_that_was_not_started_is_tried_again`: its promises, by the lemmas of Witness.
use Rattle.amo_program_safety.proofs.Witness.{an_attempt_is_given_up}
use Rattle.amo_program_safety.proofs.laws.an_attempt_that_was_not_started_is_tried_again.Goals as goal

pub returns : goal.returns
returns c = let r = an_attempt_is_given_up in (r.0, r.1, r.3, r.2)
