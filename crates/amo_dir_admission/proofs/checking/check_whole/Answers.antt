-- `check_whole`: the premises of its calls, by the lemmas of Journals.
use Rattle.std.proofs.Common.{◌+◌, arith}
use Rattle.amo_dir_admission.proofs.Journals.{whole_next}
use Rattle.amo_dir_admission.proofs.checking.check_whole.Goals as goal

pub check_file-requires-in-loop-p : goal.check_file-requires-in-loop-p
check_file-requires-in-loop-p g c = record {
  left = whole_next (g.H.DoorHost.stands c.loop-p.host) (c.loop-p.p + 1) (omega (arith, c.loop-p-test.true)) c.args.purpose c.loop-p.invariant;
}
