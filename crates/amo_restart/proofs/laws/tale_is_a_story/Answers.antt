-- `tale_is_a_story`: its promises, by the lemmas of Tales.
use Rattle.amo_restart.proofs.Tales.{always_told}
use Rattle.amo_restart.proofs.laws.tale_is_a_story.Goals as goal

pub returns-clause-lawful : goal.returns-clause-lawful
returns-clause-lawful c = λ g acts. (always_told g acts).lawful

pub returns-clause-story : goal.returns-clause-story
returns-clause-story c = λ g acts. (always_told g acts).story

pub returns-clause-agrees : goal.returns-clause-agrees
returns-clause-agrees c = λ g acts. (always_told g acts).agrees
