-- The facts that each pass of a loop of `run_out` keeps.
use Rattle.amo_report.specs.Stops.{after_lone_runs}
use Rattle.amo_report.proofs.Stopped.{Shows}
use Rattle.amo_report.proofs.stops.run_out.Given as goal

-- the times so far are done
abbrev pub invariant-loop-time : goal.invariant-loop-time
invariant-loop-time l = Shows l.fn.world.givens (after_lone_runs l.fn.world.givens l.p l._time (record { world = l.fn.world.world; most = l.fn.most })) l.world l.most
