-- `stops_run_out`: its promises, by the lemmas of ReachedWorlds, RunOut and Stopped.
use Rattle.amo_report.specs.Stops.{stopped}
use Rattle.amo_report.proofs.ReachedWorlds.{reached_verdict}
use Rattle.amo_report.proofs.RunOut.{nobody_left}
use Rattle.amo_report.proofs.Stopped.{stopped_under}
use Rattle.amo_report.proofs.laws.stops_run_out.Goals as goal

pub returns-clause-most : goal.returns-clause-most
returns-clause-most c = λ plan p count few. (stopped_under plan p count few).most

pub returns-clause-gone : goal.returns-clause-gone
returns-clause-gone c = λ plan p count q few. nobody_left plan p count q few

pub returns-clause-lawful : goal.returns-clause-lawful
returns-clause-lawful c = λ plan p count few. reached_verdict plan.givens _ (stopped plan p count).world (stopped_under plan p count few).reached
