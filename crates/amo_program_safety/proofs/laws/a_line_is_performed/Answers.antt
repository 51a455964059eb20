-- `a_line_is_performed`: its promises, by the lemmas of Witness.
use Rattle.amo_program_safety.proofs.Witness.{a_line_is_performed}
use Rattle.amo_program_safety.proofs.laws.a_line_is_performed.Goals as goal

pub returns : goal.returns
returns c = a_line_is_performed
