-- `programs_and_commands_run_by_journals_alone`: its promises, by the lemmas of Both and
-- Commanding.
use Rattle.amo_program_safety.proofs.Both.{both_run}
use Rattle.amo_program_safety.proofs.Commanding.{calls_lead, records_lead}
use Rattle.amo_program_safety.proofs.laws.programs_and_commands_run_by_journals_alone.Goals as goal

pub returns : goal.returns
returns c steps run = both_run calls_lead records_lead steps run
