-- `recorded_outcomes_are_final_here`: its promises, by the lemmas of Keeping and Recording.
use Rattle.amo_program_safety.proofs.Keeping.{kept_are_final}
use Rattle.amo_program_safety.proofs.Recording.{recorded_have_ended}
use Rattle.amo_program_safety.proofs.laws.recorded_outcomes_are_final_here.Goals as goal

pub returns-clause-kept : goal.returns-clause-kept
returns-clause-kept c steps worker serial outcome text run rule one says = kept_are_final steps run rule worker serial outcome text one says

pub returns-clause-written : goal.returns-clause-written
returns-clause-written c steps worker serial outcome text run rule one says = recorded_have_ended steps run rule worker serial outcome text one says
