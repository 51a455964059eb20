-- `if_live_attempts_are_denied_a_line_is_performed_twice`: its promises, by the lemmas of Twice.
use Rattle.amo_program_safety.proofs.Twice.{if_live_attempts_are_denied}
use Rattle.amo_program_safety.proofs.laws.if_live_attempts_are_denied_a_line_is_performed_twice.Goals as goal

pub returns : goal.returns
returns c = if_live_attempts_are_denied
