-- `courses_end_there`: its promises, by the lemmas of Courses.
use Rattle.amo_driver_safety.proofs.Courses.{ends_there, fell_there}
use Rattle.amo_driver_safety.proofs.laws.courses_end_there.Goals as goal

pub returns-clause-ended : goal.returns-clause-ended
returns-clause-ended c = λ s before after h e. ends_there s before after h e

pub returns-clause-fell : goal.returns-clause-fell
returns-clause-fell c = λ s before after t h. fell_there s before after t h
