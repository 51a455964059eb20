-- `commands_perform_each_line_at_most_once`: its promises, by the lemmas of Begun.
use Rattle.amo_run_safety.proofs.Begun.{performed_once, begun_once}
use Rattle.amo_run_safety.proofs.laws.commands_perform_each_line_at_most_once.Goals as goal

pub returns-clause-lines : goal.returns-clause-lines
returns-clause-lines c = performed_once

pub returns-clause-commands : goal.returns-clause-commands
returns-clause-commands c = begun_once
