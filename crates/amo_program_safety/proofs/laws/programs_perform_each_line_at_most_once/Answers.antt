-- `programs_perform_each_line_at_most_once`: its promises, by the lemmas of Whole.
use Rattle.amo_program_safety.proofs.Whole.{performed_once}
use Rattle.amo_program_safety.proofs.laws.programs_perform_each_line_at_most_once.Goals as goal

pub returns : goal.returns
returns c = performed_once c.lines_are_performed_once_by_journals_alone.ensures
