-- The facts that each pass of a loop of `probe_all` keeps.
use Rattle.std.proofs.Common.{drop}
use Rattle.amo_operator.specs.Phase.{Probes}
use Rattle.amo_operator.specs.Views.{known_of}
use Rattle.amo_operator.proofs.probing.probe_all.Given as goal

-- those from place k on are left
abbrev pub invariant-loop-k : goal.invariant-loop-k
invariant-loop-k g l = g.H.OperatorHost.stands l.host (Probes l.command (known_of l.seen) (drop l.k l.left.items))
