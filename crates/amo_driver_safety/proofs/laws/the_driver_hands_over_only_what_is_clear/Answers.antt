-- `the_driver_hands_over_only_what_is_clear`: its promises, by the lemmas of Courses.
use Rattle.amo_driver_safety.proofs.Courses.{just_clear, just_intended}
use Rattle.amo_driver_safety.proofs.laws.the_driver_hands_over_only_what_is_clear.Goals as goal

pub returns-clause-clear : goal.returns-clause-clear
returns-clause-clear c = λ g p s n j before after d is h. just_clear g p s before after d n j is h

pub returns-clause-asked : goal.returns-clause-asked
returns-clause-asked c = λ g p s n j before after d is h. just_intended g p s before after d n j is h
