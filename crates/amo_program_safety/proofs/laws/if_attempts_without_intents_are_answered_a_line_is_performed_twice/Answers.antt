-- `if_attempts_without_intents_are_answered_a_line_is_performed_twice`: its promises, by the lemmas
-- of Twice.
use Rattle.amo_program_safety.proofs.Twice.{if_attempts_without_intents_are_answered}
use Rattle.amo_program_safety.proofs.laws.if_attempts_without_intents_are_answered_a_line_is_performed_twice.Goals as goal

pub returns : goal.returns
returns c = if_attempts_without_intents_are_answered
