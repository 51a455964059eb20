-- The facts that each pass of a loop of `guard` keeps.
use Rattle.std.proofs.Common.{true}
use Rattle.amo_operator.specs.Phase.{Enters}
use Rattle.amo_operator.proofs.entering.guard.Given as goal

-- it has tried the lock, and has none
abbrev pub invariant-loop-try : goal.invariant-loop-try
invariant-loop-try g l = g.H.OperatorHost.stands l.host (Enters l.command true)
