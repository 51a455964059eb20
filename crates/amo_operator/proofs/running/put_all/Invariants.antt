-- The facts that each pass of a loop of `put_all` keeps.
use Rattle.std.proofs.Common.{drop}
use Rattle.amo_operator.specs.Phase.{Puts}
use Rattle.amo_operator.proofs.running.put_all.Given as goal

-- those from place k on are left
abbrev pub invariant-loop-k : goal.invariant-loop-k
invariant-loop-k g l = g.H.OperatorHost.stands l.host (Puts (drop l.k l.answers))
