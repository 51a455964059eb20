-- `status_of_command`: its promises, by the lemmas of Endings.
use Rattle.amo_cli.proofs.Endings.{ends_by}
use Rattle.amo_cli.proofs.program.status_of_command.Goals as goal

pub returns-in-Err-clause-ends : goal.returns-in-Err-clause-ends
returns-in-Err-clause-ends g c = ends_by _ _ _ _ _ _ g.met.C.Command.plan_keeps c.in-Err.fault _ _ _ c.in-Err.ensures.fault c.in-Err.ensures.passed_on c.refuse.ensures.told
