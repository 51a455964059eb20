-- The facts that each pass of a loop of `state_of` keeps.
use Rattle.std.proofs.Common.{◌≡◌, drop}
use Rattle.amo_render.specs.Happened.{state_of}
use Rattle.amo_render.proofs.events.state_of.Given as goal

-- the events to come decide
abbrev pub invariant-loop-event : goal.invariant-loop-event
invariant-loop-event l = state_of l.worker (drop l.event-index l.history) ≡ state_of l.worker l.history
