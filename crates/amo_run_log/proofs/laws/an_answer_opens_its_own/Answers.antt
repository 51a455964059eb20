-- `an_answer_opens_its_own`: its promises, by the lemmas of ClosingWins.
use Rattle.amo_run_log.proofs.ClosingWins.{law_own}
use Rattle.amo_run_log.proofs.laws.an_answer_opens_its_own.Goals as goal

pub returns : goal.returns
returns c count findings before after attempts next line entry is closed opened = law_own count findings line before after attempts next entry is closed opened
