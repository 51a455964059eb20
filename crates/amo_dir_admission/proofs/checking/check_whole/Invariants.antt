-- The facts that each pass of a loop of `check_whole` keeps.
use Rattle.std.proofs.Common.{◌+◌}
use Rattle.amo_dir_admission.specs.Files.{journals_since}
use Rattle.amo_dir_admission.specs.Phase.{Whole}
use Rattle.amo_dir_admission.proofs.checking.check_whole.Given as goal

-- the journals from that of worker p + 1 on are left
abbrev pub invariant-loop-p : goal.invariant-loop-p
invariant-loop-p g l = g.H.DoorHost.stands l.host (Whole l.purpose (journals_since (l.p + 1)))
