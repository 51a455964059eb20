-- The facts that each pass of a loop of `take_jobs` keeps.
use Rattle.std.proofs.Common.{◌≡◌}
use Rattle.amo_mailbox.specs.Endpoints.{IsInletOf}
use Rattle.amo_crew_tests.proofs.queues.take_jobs.Given as goal

abbrev pub invariant-loop-n : goal.invariant-loop-n
invariant-loop-n g l = record { belongs : IsInletOf l.queue l.inlet; room : l.inlet.room ≡ l.initial.inlet.room }
