-- `files_are_made_in_order`: its promise, by the lemmas of Known.
use Rattle.amo_dir_admission.proofs.Known.{door_keeps_rules}
use Rattle.amo_dir_admission.proofs.laws.files_are_made_in_order.Goals as goal

pub returns : goal.returns
returns c = door_keeps_rules
