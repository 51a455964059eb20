-- The facts that each pass of a loop of `run` keeps.
use Rattle.std.proofs.Common.{false}
use Rattle.amo_operator.specs.Phase.{Enters}
use Rattle.amo_operator.proofs.running.run.Given as goal

-- it has no lock
abbrev pub invariant-loop-try : goal.invariant-loop-try
invariant-loop-try g l = g.H.OperatorHost.stands l.host (Enters l.command false)
