-- The facts that each pass of a loop of `read_logs` keeps.
use Rattle.std.proofs.Common.{◌+◌}
use Rattle.amo_operator.specs.Knowing.{workers_since}
use Rattle.amo_operator.specs.Phase.{Looks}
use Rattle.amo_operator.specs.Views.{texts_of}
use Rattle.amo_operator.proofs.reading.read_logs.Given as goal

-- the journals from that of worker p + 1 on are left
abbrev pub invariant-loop-p : goal.invariant-loop-p
invariant-loop-p g l = g.H.OperatorHost.stands l.host (Looks l.command l.survey.last (texts_of l.survey) (workers_since (l.p + 1)))
