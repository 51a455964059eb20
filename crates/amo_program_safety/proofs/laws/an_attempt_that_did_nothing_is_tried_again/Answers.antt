-- `an_attempt_that_did_nothing_is_tried_again`: its promises, by the lemmas of Witness.
use Rattle.amo_program_safety.proofs.Witness.{a_line_is_tried_again}
use Rattle.amo_program_safety.proofs.laws.an_attempt_that_did_nothing_is_tried_again.Goals as goal

pub returns : goal.returns
returns c = a_line_is_tried_again
