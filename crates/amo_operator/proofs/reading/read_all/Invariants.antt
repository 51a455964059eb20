-- The facts that each pass of a loop of `read_all` keeps.
use Rattle.std.proofs.Common.{◌+◌}
use Rattle.amo_operator.specs.Knowing.{workers_since}
use Rattle.amo_operator.specs.Protocol.{reads_to}
use Rattle.amo_operator.specs.Views.{texts_of}
use Rattle.amo_operator.proofs.reading.read_all.Given as goal

-- the journals from that of worker p + 1 on are left
abbrev pub invariant-loop-p : goal.invariant-loop-p
invariant-loop-p g l = g.H.OperatorHost.stands l.host (reads_to l.command l.survey.last (texts_of l.survey) (workers_since (l.p + 1)))
