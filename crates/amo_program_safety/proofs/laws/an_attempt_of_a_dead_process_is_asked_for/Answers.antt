-- `an_attempt_of_a_dead_process_is_asked_for`: its promises, by the lemmas of Witness.
use Rattle.amo_program_safety.proofs.Witness.{an_attempt_is_asked_for}
use Rattle.amo_program_safety.proofs.laws.an_attempt_of_a_dead_process_is_asked_for.Goals as goal

pub returns : goal.returns
returns c = an_attempt_is_asked_for
