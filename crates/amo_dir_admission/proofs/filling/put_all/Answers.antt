-- `put_all`: the premises of its calls, by the lemmas of Journals.
use Rattle.std.proofs.Common.{◌+◌, arith}
use Rattle.amo_dir_admission.proofs.Journals.{puts_next}
use Rattle.amo_dir_admission.proofs.filling.put_all.Goals as goal

pub put_first-requires-in-loop-p : goal.put_first-requires-in-loop-p
put_first-requires-in-loop-p g c = record {
  left = puts_next (g.H.DoorHost.stands c.loop-p.host) (c.loop-p.p + 1) (omega (arith, c.loop-p-test.true)) c.loop-p.invariant;
}
