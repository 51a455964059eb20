-- The facts that each pass of a loop of `lock` keeps.
use Rattle.std.proofs.Common.{true}
use Rattle.amo_dir_admission.specs.Phase.{Locks}
use Rattle.amo_dir_admission.proofs.locking.lock.Given as goal

-- it has tried the lock, and doesn't have it
abbrev pub invariant-loop-try : goal.invariant-loop-try
invariant-loop-try g l = g.H.DoorHost.stands l.host (Locks true)
