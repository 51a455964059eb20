-- `what_is_open`: its promises, by the lemmas of OpenMeaning.
use Rattle.amo_run_log.proofs.OpenMeaning.{law_open, law_is_open}
use Rattle.amo_run_log.proofs.laws.what_is_open.Goals as goal

pub returns-clause-is : goal.returns-clause-is
returns-clause-is c findings journals line h = law_open findings line journals h

pub returns-clause-only : goal.returns-clause-only
returns-clause-only c findings journals line h = law_is_open findings line journals h
