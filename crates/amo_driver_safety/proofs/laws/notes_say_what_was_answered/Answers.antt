-- `notes_say_what_was_answered`: its promises, by the lemmas of Courses.
use Rattle.amo_driver_safety.proofs.Courses.{just_answered}
use Rattle.amo_driver_safety.proofs.laws.notes_say_what_was_answered.Goals as goal

pub returns : goal.returns
returns c = λ g p s n a before after d is h. just_answered g p s before after d n a is h
