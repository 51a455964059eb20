-- The faults of a program: which come from a text, and the line and the status of each.
use Rattle.std.specs.Prelude.{ℕ, List, Bool, true, false, codes}
use Rattle.amo_cli.specs.declared.fault.Fault.{Fault}
use Rattle.amo_cli.specs.declared.fault.Fault.TheVariants.{Plan, NoCommand, NoMemory, Thread, Read, Write}
use Rattle.amo_render.specs.declared.writing.ReplayFault.{ReplayFault}
use Rattle.amo_render.specs.declared.writing.ReplayFault.TheVariants as replay
use Rattle.amo_render.specs.FaultTexts.{fault_line}

-- the fault of a text
abbrev pub fault_of_replay : ReplayFault → Fault
fault_of_replay (replay.Plan f) = Plan f
fault_of_replay replay.Read = Read
fault_of_replay replay.Write = Write
fault_of_replay replay.NoMemory = NoMemory

-- the line of a fault on standard error
abbrev pub line_of : Fault → List ℕ
line_of (Plan f) = fault_line f
line_of NoCommand = codes "fault words\n"
line_of NoMemory = codes "fault memory\n"
line_of Thread = codes "fault thread\n"
line_of Read = codes "fault read\n"
line_of Write = codes "fault write\n"

-- the exit status of a fault
abbrev pub status_of : Fault → ℕ
status_of (Plan f) = 1
status_of NoCommand = 2
status_of NoMemory = 3
status_of Thread = 3
status_of Read = 4
status_of Write = 4

-- the reader has failed if this fault came
abbrev pub is_of_reader : Fault → Bool
is_of_reader Read = true
is_of_reader fault = false

-- the writer has failed if this fault came
abbrev pub is_of_writer : Fault → Bool
is_of_writer Write = true
is_of_writer fault = false
