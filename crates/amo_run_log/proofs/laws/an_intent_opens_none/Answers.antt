-- `an_intent_opens_none`: its promises, by the lemmas of ClosingWins.
use Rattle.amo_run_log.proofs.ClosingWins.{law_intent}
use Rattle.amo_run_log.proofs.laws.an_intent_opens_none.Goals as goal

pub returns : goal.returns
returns c count findings before after attempts next line entry opens is h = law_intent count findings line before after attempts next entry opens is h
