-- Why a door isn't passed.
use Rattle.std.specs.Prelude.{true, string_bytes}
use Rattle.amo_dir_admission.specs.declared.halt.Halt.{Halt}
use Rattle.amo_dir_admission.specs.declared.halt.Halt.TheVariants as H
use Rattle.amo_dir_admission.specs.Phase.{Phase, Locks, Refuses, RefusesFile, Ended}
use Rattle.amo_dir_admission.specs.Protocol.{Lives}

-- The phase in which a door then is, which says the cause. If another process makes the files, this
-- one has tried the lock of the round, and doesn't have it. Out of memory says nothing.
abbrev pub Halts : (Phase → Type 0) → Halt → Type 0
Halts stands H.Host = stands Ended
Halts stands H.Memory = Lives stands
Halts stands H.Making = stands (Locks true)
Halts stands (H.NotNew name) = stands (RefusesFile (string_bytes name))
Halts stands (H.Refused why) = stands (Refuses why)
