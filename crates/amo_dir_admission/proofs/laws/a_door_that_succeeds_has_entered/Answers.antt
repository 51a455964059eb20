-- `a_door_that_succeeds_has_entered`: its promise, by the lemmas of Entering.
use Rattle.amo_dir_admission.proofs.Entering.{door_has_entered}
use Rattle.amo_dir_admission.proofs.laws.a_door_that_succeeds_has_entered.Goals as goal

pub returns : goal.returns
returns c = door_has_entered
