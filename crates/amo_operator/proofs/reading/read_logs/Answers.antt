-- `read_logs`: the premises of its calls, by the lemmas of Workers.
use Rattle.std.proofs.Common.{◌+◌, arith}
use Rattle.amo_operator.specs.Views.{texts_of}
use Rattle.amo_operator.proofs.Workers.{looks_next}
use Rattle.amo_operator.proofs.reading.read_logs.Goals as goal

pub look_at-requires-clause-left : goal.look_at-requires-clause-left
look_at-requires-clause-left g c =
    looks_next (g.H.OperatorHost.stands c.loop-p.host) c.args.command.now c.loop-p.survey.last (texts_of c.loop-p.survey) (c.loop-p.p + 1) (omega (arith, c.loop-p-test.true))
    c.loop-p.invariant
