-- `without_clearance_a_line_is_performed_twice`: its promises, by the lemmas of Twice.
use Rattle.amo_safety_by_journals.proofs.Twice.{without_clearance}
use Rattle.amo_safety_by_journals.proofs.laws.without_clearance_a_line_is_performed_twice.Goals as goal

pub returns : goal.returns
returns c = without_clearance
