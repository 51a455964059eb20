-- `lines_are_performed_once_by_journals_alone`: its promises, by the lemmas of Safe.
use Rattle.amo_safety_by_journals.proofs.Safe.{performed_once}
use Rattle.amo_safety_by_journals.proofs.laws.lines_are_performed_once_by_journals_alone.Goals as goal

pub returns : goal.returns
returns c = performed_once
