-- `a_line_is_performed_after_a_stop_in_an_append`: its promises, by the lemmas of Witness.
use Rattle.amo_program_safety.proofs.Witness.{a_stop_takes_an_append}
use Rattle.amo_program_safety.proofs.laws.a_line_is_performed_after_a_stop_in_an_append.Goals as goal

pub returns : goal.returns
returns c = a_stop_takes_an_append
