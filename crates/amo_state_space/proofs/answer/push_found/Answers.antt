-- `push_found`: its promises, directly from definitions and clauses.
use Rattle.amo_state_space.specs.Answer.{found_text}
use Rattle.amo_state_space.proofs.answer.push_found.Goals as goal

pub returns : goal.returns
unfolding found_text
returns c = rw (c.in_ok-worst.ensures, c.in_ok-words.ensures, c.as_slice-turns.ensures.value, c.fewest-least.ensures) at c.writeln.ensures.bytes
