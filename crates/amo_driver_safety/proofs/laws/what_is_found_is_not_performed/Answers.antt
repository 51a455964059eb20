-- `what_is_found_is_not_performed`: its promises, by the lemmas of Found.
use Rattle.std.proofs.Common.{refl, []}
use Rattle.amo_driver.specs.Course.{first_stage}
use Rattle.amo_driver_safety.proofs.Found.{not_performed}
use Rattle.amo_driver_safety.proofs.laws.what_is_found_is_not_performed.Goals as goal

pub returns : goal.returns
returns c = λ g p s j before after d o is h. not_performed g p o [] (first_stage g p s) before after d j refl is h
