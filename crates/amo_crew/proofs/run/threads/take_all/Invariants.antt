-- The facts that each pass of a loop of `take_all` keeps.
use Rattle.std.proofs.Common.{◌≡◌}
use Rattle.amo_mailbox.specs.Endpoints.{IsInletOf}
use Rattle.amo_crew.proofs.run.threads.take_all.Given as goal

abbrev pub invariant-loop : goal.invariant-loop
invariant-loop g l = record { belongs : IsInletOf l.queue l.inlet; room : l.inlet.room ≡ l.initial.inlet.room }
