-- The change of a stream, and the report of a fault.
use Rattle.std.specs.Prelude.{◌≡◌, ◌⊎◌, ℕ, List, Bool, false, Option}
use Rattle.std.specs.Io.KnownBytes.{Keeps, Appends}
use Rattle.amo_io.specs.Streams.{AppendsFront}
use Rattle.amo_cli.specs.declared.fault.Fault.{Fault}
use Rattle.amo_cli.specs.declared.fault.Fault.TheVariants.{Plan, NoMemory}
use Rattle.amo_cli.specs.Faults.{line_of, status_of}

-- The change of a stream: its bytes before and after, if they are known, and whether it has failed
-- then. A reader's bytes are those that remain, a writer's those that it holds.
pub record Change : Type 0 where
  pub before : Option (List ℕ)
  pub after : Option (List ℕ)
  pub failed : Bool

-- the change from the first bytes to the second
abbrev pub change : Option (List ℕ) → Option (List ℕ) → Bool → Change
change before after failed = record { before = before; after = after; failed = failed }

-- nothing was written
abbrev pub IsKept : Change → Type 0
IsKept s = Keeps s.before s.after

-- A line was given to a writer: a beginning of it was written, and all of it unless the writer has
-- failed.
pub record Says (s : Change) (line : List ℕ) : Type 0 where
  pub beginning : AppendsFront s.before s.after line
  pub whole : s.failed ≡ false → Appends s.before s.after line

-- the line of this fault was given to `err`, and the status is that of the fault
abbrev pub Tells : Fault → Change → ℕ → Type 0
Tells fault err status = Says err (line_of fault) × (status ≡ status_of fault)

-- the fault that came was reported, or out of memory in place of a plan's fault, whose line takes
-- memory
abbrev pub IsTold : Fault → Change → ℕ → Type 0
IsTold (Plan f) err status = Tells (Plan f) err status ⊎ Tells NoMemory err status
IsTold fault err status = Tells fault err status
