-- The calls that are made of a disk: which of them fail, and what is read after each.
use Rattle.std.specs.Prelude.{◌≡◌, ℕ, ◌+◌, ◌/◌, ◌==◌, Bool, true, false, Option, Some, None, List, ◌++◌, length, take, drop, Vec}
use Rattle.std.specs.List.{slice_get}
use Rattle.std.specs.declared.alloc.Global.{Global}
use Rattle.amo_sim_disk.specs.declared.call.Call.{Call}
use Rattle.amo_sim_disk.specs.declared.call.Call.TheVariants.{Read, FailedRead, Write, FailedWrite, Cut, FailedCut, Sync, FailedSync}

-- the disk failed at it
abbrev pub has_failed : Call → Bool
has_failed Read = false
has_failed FailedRead = true
has_failed (Write at bytes) = false
has_failed (FailedWrite at bytes front) = true
has_failed (Cut len) = false
has_failed (FailedCut len) = true
has_failed Sync = false
has_failed FailedSync = true

-- whether the call of this number is to fail; the first call has the number 0
abbrev pub is_planned : Option ℕ → ℕ → Bool
is_planned None number = false
is_planned (Some planned) number = planned == number

-- the call of the planned number failed, and no other
abbrev pub FailsAsPlanned : Option ℕ → List Call → Type 0
FailsAsPlanned failing calls = (number : ℕ) (call : Call) → slice_get calls number ≡ Some call → has_failed call ≡ is_planned failing number

-- these bytes at this place, in the place of what is read there
abbrev pub with_bytes : ℕ → List ℕ → List ℕ → List ℕ
with_bytes at bytes read = take at read ++ bytes ++ drop (at + length bytes) read

-- what is read after a call
abbrev pub read_after : Call → List ℕ → List ℕ
read_after Read read = read
read_after FailedRead read = read
read_after (Write at bytes) read = with_bytes at bytes.items read
read_after (FailedWrite at bytes front) read = with_bytes at (take front bytes.items) read
read_after (Cut len) read = take len read
read_after (FailedCut len) read = read
read_after Sync read = read
read_after FailedSync read = read

-- the read that is made: nothing is read if it is to fail
abbrev pub read_call : Bool → Call
read_call false = Read
read_call true = FailedRead

-- the write that is made: half of it if it is to fail
abbrev pub write_call : Bool → ℕ → Vec ℕ Global → Call
write_call false at bytes = Write at bytes
write_call true at bytes = FailedWrite at bytes (length bytes.items / 2)

-- the cut that is made
abbrev pub cut_call : Bool → ℕ → Call
cut_call false len = Cut len
cut_call true len = FailedCut len

-- the sync that is made
abbrev pub sync_call : Bool → Call
sync_call false = Sync
sync_call true = FailedSync

-- such a write of these bytes
abbrev pub IsWrite : ℕ → List ℕ → Bool → Call → Type 0
IsWrite at bytes fails call = (given : Vec ℕ Global) × (given.items ≡ bytes) × (call ≡ write_call fails at given)
