-- The facts that each pass of a loop of `run_all_out` keeps.
use Rattle.amo_report.specs.Stops.{all_run_out}
use Rattle.amo_report.proofs.Stopped.{Shows}
use Rattle.amo_report.proofs.stops.run_all_out.Given as goal

-- the workers so far have run out
abbrev pub invariant-loop-before : goal.invariant-loop-before
invariant-loop-before l = Shows l.fn.world.givens (all_run_out l.fn.world.givens l.before (record { world = l.fn.world.world; most = 0 })) l.world l.most
