-- `nothing_is_made_before_it_is_checked`: its promise, by the lemmas of Checks.
use Rattle.amo_dir_admission.proofs.Checks.{door_checks_before}
use Rattle.amo_dir_admission.proofs.laws.nothing_is_made_before_it_is_checked.Goals as goal

pub returns : goal.returns
returns c = door_checks_before
