-- `without_lines_that_come_once_a_line_is_performed_twice`: its promises, by the lemmas of Twice.
use Rattle.amo_program_safety.proofs.Twice.{without_lines_once}
use Rattle.amo_program_safety.proofs.laws.without_lines_that_come_once_a_line_is_performed_twice.Goals as goal

pub returns : goal.returns
returns c = without_lines_once
