-- `commands_stand_over_runs`: its promises, by the lemmas of Begun.
use Rattle.amo_run_safety.proofs.Begun.{is_run}
use Rattle.amo_run_safety.proofs.laws.commands_stand_over_runs.Goals as goal

pub returns : goal.returns
returns c = is_run
