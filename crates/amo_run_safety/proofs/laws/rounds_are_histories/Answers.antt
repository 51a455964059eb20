-- `rounds_are_histories`: its promises, by the lemmas of Once.
use Rattle.amo_run_safety.proofs.Once.{round_history}
use Rattle.amo_run_safety.proofs.laws.rounds_are_histories.Goals as goal

pub returns : goal.returns
returns c = round_history
