-- The facts that each pass of a loop of `part` keeps.
use Rattle.amo_example_payments.specs.Restarts.{IsParted}
use Rattle.amo_example_payments.proofs.restarting.part.Given as goal

abbrev pub invariant-loop-payment : goal.invariant-loop-payment
invariant-loop-payment l = IsParted l.journal l.yielded l.parts
