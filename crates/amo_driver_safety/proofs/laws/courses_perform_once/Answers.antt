-- `courses_perform_once`: its promises, by the lemmas of Handed.
use Rattle.amo_driver.specs.Course.{first_stage}
use Rattle.std.proofs.Common.{refl, []}
use Rattle.amo_driver_safety.proofs.Handed.{each_once}
use Rattle.amo_driver_safety.proofs.laws.courses_perform_once.Goals as goal

pub returns : goal.returns
returns c = λ g p s deeds o h. each_once g p o [] (first_stage g p s) deeds refl h
