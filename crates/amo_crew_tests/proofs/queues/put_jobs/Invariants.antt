-- The facts that each pass of a loop of `put_jobs` keeps.
use Rattle.std.proofs.Common.{◌≡◌}
use Rattle.amo_mailbox.specs.Endpoints.{IsOutletOf}
use Rattle.amo_crew_tests.proofs.queues.put_jobs.Given as goal

abbrev pub invariant-loop-job : goal.invariant-loop-job
invariant-loop-job g l = record { belongs : IsOutletOf l.queue l.outlet; worker : l.outlet.worker ≡ l.initial.outlet.worker }
