-- The facts that each pass of a loop of `pending_of` keeps.
use Rattle.std.proofs.Common.{◌≡◌, map}
use Rattle.amo_host.specs.Starting.{intent_of}
use Rattle.amo_worker_life.proofs.start.pending_of.Given as goal

abbrev pub invariant-loop-serial : goal.invariant-loop-serial
invariant-loop-serial l = l.intents.items ≡ map intent_of l.yielded
