-- `without_commands_that_lock_a_line_is_performed_twice`: its promises, by the lemmas of Twice.
use Rattle.amo_program_safety.proofs.Twice.{without_locked_commands}
use Rattle.amo_program_safety.proofs.laws.without_commands_that_lock_a_line_is_performed_twice.Goals as goal

pub returns : goal.returns
returns c = without_locked_commands
