-- `what_is_a_journal`: its promises, by the lemmas of GrammarLaws.
use Rattle.amo_run_log.proofs.GrammarLaws.{law_journal, law_is_journal}
use Rattle.amo_run_log.proofs.laws.what_is_a_journal.Goals as goal

pub returns-clause-is : goal.returns-clause-is
returns-clause-is c count entries attempts h = law_journal count entries attempts h

pub returns-clause-only : goal.returns-clause-only
returns-clause-only c count entries all = law_is_journal count entries all
