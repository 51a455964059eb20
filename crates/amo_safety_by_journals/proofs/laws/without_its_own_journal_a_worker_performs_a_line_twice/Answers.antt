-- `without_its_own_journal_a_worker_performs_a_line_twice`: its promises, by the lemmas of Twice.
use Rattle.amo_safety_by_journals.proofs.Twice.{without_its_own}
use Rattle.amo_safety_by_journals.proofs.laws.without_its_own_journal_a_worker_performs_a_line_twice.Goals as goal

pub returns : goal.returns
returns c = without_its_own
