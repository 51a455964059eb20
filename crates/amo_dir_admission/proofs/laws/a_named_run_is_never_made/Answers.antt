-- `a_named_run_is_never_made`: its promise, by the lemmas of Quiet.
use Rattle.amo_dir_admission.proofs.Quiet.{door_makes_nothing}
use Rattle.amo_dir_admission.proofs.laws.a_named_run_is_never_made.Goals as goal

pub returns : goal.returns
returns c = door_makes_nothing
