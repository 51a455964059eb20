-- `workers_run_without_commands`: its promises, by the lemmas of Alone.
use Rattle.amo_program_safety.proofs.Alone.{workers_run_alone}
use Rattle.amo_program_safety.proofs.laws.workers_run_without_commands.Goals as goal

pub returns : goal.returns
returns c es run none = workers_run_alone es run none
