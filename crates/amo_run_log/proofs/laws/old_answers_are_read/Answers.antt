-- `old_answers_are_read`: its promises, by the lemmas of OldAnswers.
use Rattle.amo_run_log.proofs.OldAnswers.{old_doubt, old_untouched, entry_stays}
use Rattle.amo_run_log.proofs.laws.old_answers_are_read.Goals as goal

pub returns-clause-doubt : goal.returns-clause-doubt
returns-clause-doubt c serial fits = old_doubt serial fits

pub returns-clause-untouched : goal.returns-clause-untouched
returns-clause-untouched c serial code fits small = old_untouched serial code fits small

pub returns-clause-entry : goal.returns-clause-entry
returns-clause-entry c entry fits = entry_stays entry fits
