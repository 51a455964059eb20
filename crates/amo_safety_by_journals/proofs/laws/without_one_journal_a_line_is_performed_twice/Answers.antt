-- `without_one_journal_a_line_is_performed_twice`: its promises, by the lemmas of Twice.
use Rattle.amo_safety_by_journals.proofs.Twice.{without_one}
use Rattle.amo_safety_by_journals.proofs.laws.without_one_journal_a_line_is_performed_twice.Goals as goal

pub returns : goal.returns
returns c = without_one
