-- `programs_and_commands_perform_each_line_at_most_once`: its promises, by the lemmas of Both and
-- Commanding.
use Rattle.amo_program_safety.proofs.Both.{both_performed_once}
use Rattle.amo_program_safety.proofs.Commanding.{calls_lead, records_lead}
use Rattle.amo_program_safety.proofs.laws.programs_and_commands_perform_each_line_at_most_once.Goals as goal

pub returns : goal.returns
returns c = both_performed_once calls_lead records_lead c.lines_are_performed_once_by_journals_alone.ensures
