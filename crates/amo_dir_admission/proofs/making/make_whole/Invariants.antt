-- The facts that each pass of a loop of `make_whole` keeps.
use Rattle.std.proofs.Common.{◌+◌}
use Rattle.amo_dir_admission.specs.Files.{journals_since}
use Rattle.amo_dir_admission.specs.Phase.{Fills}
use Rattle.amo_dir_admission.proofs.making.make_whole.Given as goal

-- the journals from that of worker p + 1 on are left
abbrev pub invariant-loop-p : goal.invariant-loop-p
invariant-loop-p g l = g.H.DoorHost.stands l.host (Fills (journals_since (l.p + 1)))
