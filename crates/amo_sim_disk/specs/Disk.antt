-- The parts of a disk that contracts see.
use Rattle.std.specs.Prelude.{ℕ, List, take, Option}
use Rattle.amo_sim_disk.specs.declared.call.Call.{Call}
use Rattle.amo_sim_disk.specs.declared.disk.Disk.{Disk}
use Rattle.amo_sim_disk.specs.Replay.{Story, story_of}

-- the calls that were made of it, the first of them first
abbrev pub disk_calls : Disk → List Call
disk_calls disk = disk.calls.items

-- the number of the call that fails, if one does
abbrev pub disk_failing : Disk → Option ℕ
disk_failing disk = disk.failing

-- what it had at first, and what became of it since
abbrev pub disk_story : Disk → Story
disk_story disk = story_of disk.first.items disk.failing disk.calls.items

-- after so many of the calls
abbrev pub disk_story_after : ℕ → Disk → Story
disk_story_after calls disk = story_of disk.first.items disk.failing (take calls disk.calls.items)
