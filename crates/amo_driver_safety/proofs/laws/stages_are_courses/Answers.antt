-- `stages_are_courses`: its promises, by the lemmas of Logs.
use Rattle.amo_driver_safety.proofs.Logs.{stands_by_log}
use Rattle.amo_driver_safety.proofs.laws.stages_are_courses.Goals as goal

pub returns : goal.returns
returns c = λ g ms p h o. stands_by_log g p o ms h
