-- `without_one_list_a_text_is_performed_twice`: its promises, by the lemmas of Witness.
use Rattle.amo_program_safety.proofs.Witness.{two_lists_perform_a_text_twice}
use Rattle.amo_program_safety.proofs.laws.without_one_list_a_text_is_performed_twice.Goals as goal

pub returns : goal.returns
returns c = two_lists_perform_a_text_twice
