-- `performances_follow_intents`: its promises, by the lemmas of Courses.
use Rattle.amo_driver_safety.proofs.Courses.{just_cleared}
use Rattle.amo_driver_safety.proofs.laws.performances_follow_intents.Goals as goal

pub returns : goal.returns
returns c = λ g p s n j before after d is h. just_cleared g p s before after d n j is h
