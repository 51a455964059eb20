-- `who_asks_does_right`: its promises, by the lemmas of Asks.
use Rattle.amo_run_safety.proofs.Asks.{stands_by_asker}
use Rattle.amo_run_safety.proofs.laws.who_asks_does_right.Goals as goal

pub returns : goal.returns
returns c = λ es p s a run at is. stands_by_asker p es s a run at is
