-- `commands_there_are`: its promises, by the lemmas of Commanded.
use Rattle.amo_run_safety.proofs.Commanded.{actions, are_actions, is_truthful, is_patient, begun_names, performed_names}
use Rattle.amo_run_safety.proofs.laws.commands_there_are.Goals as goal

pub returns : goal.returns
returns c = (actions, are_actions, is_truthful, is_patient, begun_names, performed_names)
