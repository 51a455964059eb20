-- `an_intent_closes`: its promises, by the lemmas of ClosingWins.
use Rattle.amo_run_log.proofs.ClosingWins.{law_closes}
use Rattle.amo_run_log.proofs.laws.an_intent_closes.Goals as goal

pub returns : goal.returns
returns c count findings before after attempts mid next serial line time entries put opens is found = law_closes count findings line before after attempts mid next serial time entries put opens is found
