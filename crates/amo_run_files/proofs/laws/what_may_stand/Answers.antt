-- `what_may_stand`: its promises, by the lemmas of Refusals.
use Rattle.amo_run_files.proofs.Refusals.{may, must}
use Rattle.amo_run_files.proofs.laws.what_may_stand.Goals as goal

pub returns-clause-is : goal.returns-clause-is
returns-clause-is c before line h = may before line h

pub returns-clause-only : goal.returns-clause-only
returns-clause-only c before line is new = must before line is new
