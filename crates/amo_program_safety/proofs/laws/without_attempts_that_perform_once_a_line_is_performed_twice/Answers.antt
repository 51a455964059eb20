-- `without_attempts_that_perform_once_a_line_is_performed_twice`: its promises, by the lemmas of
-- Twice.
use Rattle.amo_program_safety.proofs.Twice.{without_one_performance}
use Rattle.amo_program_safety.proofs.laws.without_attempts_that_perform_once_a_line_is_performed_twice.Goals as goal

pub returns : goal.returns
returns c = without_one_performance
