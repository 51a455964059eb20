-- `histories_there_are`: its promises, by the lemmas of Example.
use Rattle.amo_driver_safety.proofs.Example.{two_and_two, moments, is_history, handed, before_taking, after_taking, is_taken, handed_the_other}
use Rattle.amo_driver_safety.proofs.laws.histories_there_are.Goals as goal

pub returns-clause-handed : goal.returns-clause-handed
returns-clause-handed c = (two_and_two, moments, is_history, handed)

pub returns-clause-taken : goal.returns-clause-taken
returns-clause-taken c = (two_and_two, before_taking, after_taking, is_taken, handed_the_other)
