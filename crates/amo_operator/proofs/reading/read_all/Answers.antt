-- `read_all`: the premises of its calls, by the lemmas of Workers.
use Rattle.std.proofs.Common.{◌+◌, arith}
use Rattle.amo_operator.specs.Views.{texts_of}
use Rattle.amo_operator.proofs.Workers.{reads_next}
use Rattle.amo_operator.proofs.reading.read_all.Goals as goal

pub read_journal-requires : goal.read_journal-requires
read_journal-requires g c = record {
  left =
      reads_next (g.H.OperatorHost.stands c.loop-p.host) c.args.command.now c.loop-p.survey.last (texts_of c.loop-p.survey) (c.loop-p.p + 1) (omega (arith, c.loop-p-test.true))
      c.loop-p.invariant;
}
