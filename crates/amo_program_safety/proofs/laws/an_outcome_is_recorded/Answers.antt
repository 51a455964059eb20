-- `an_outcome_is_recorded`: its promises, by the lemmas of Reported.
use Rattle.amo_program_safety.proofs.Reported.{an_outcome_is_recorded}
use Rattle.amo_program_safety.proofs.laws.an_outcome_is_recorded.Goals as goal

pub returns : goal.returns
returns c = an_outcome_is_recorded
