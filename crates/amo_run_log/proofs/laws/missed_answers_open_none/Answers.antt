-- `missed_answers_open_none`: its promises, by the lemmas of ClosingWins.
use Rattle.amo_run_log.proofs.ClosingWins.{law_missed}
use Rattle.amo_run_log.proofs.laws.missed_answers_open_none.Goals as goal

pub returns : goal.returns
returns c count findings before after attempts next line answers all is h = law_missed count findings line before after attempts next answers all is h
