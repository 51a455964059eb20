-- `make_whole`: the premises of its calls, by the lemmas of Journals.
use Rattle.std.proofs.Common.{◌+◌, arith}
use Rattle.amo_dir_admission.proofs.Journals.{fills_next}
use Rattle.amo_dir_admission.proofs.making.make_whole.Goals as goal

pub make_first-requires-in-loop-p : goal.make_first-requires-in-loop-p
make_first-requires-in-loop-p g c = record {
  left = fills_next (g.H.DoorHost.stands c.loop-p.host) (c.loop-p.p + 1) (omega (arith, c.loop-p-test.true)) c.loop-p.invariant;
}
