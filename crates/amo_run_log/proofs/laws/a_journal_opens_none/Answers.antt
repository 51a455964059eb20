-- `a_journal_opens_none`: its promises, by the lemmas of ClosingWins.
use Rattle.amo_run_log.proofs.ClosingWins.{law_journal}
use Rattle.amo_run_log.proofs.laws.a_journal_opens_none.Goals as goal

pub returns : goal.returns
returns c findings journals more line h = law_journal 0 findings line journals more h
