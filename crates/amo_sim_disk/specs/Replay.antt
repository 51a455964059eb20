-- The state of a disk by its calls: the bytes that are read, those that a crash may leave, and the
-- stale places.
use Rattle.std.specs.Prelude.{◌≡◌, ◌⊎◌, ℕ, ◌<◌, List, [], ◌∷◌, length, reverse, count_by, Option, Result, Ok, Err, Bool, true, false}
use Rattle.amo_journal.specs.Device.{AgreesBut, CutFrom, Differs, IsOutside, TornFrom}
use Rattle.amo_journal.specs.declared.device.DeviceError.{DeviceError}
use Rattle.amo_journal.specs.declared.device.DeviceError.TheVariants.{Memory, Failed}
use Rattle.amo_sim_disk.specs.declared.call.Call.{Call}
use Rattle.amo_sim_disk.specs.declared.call.Call.TheVariants.{Read, FailedRead, Write, FailedWrite, Cut, FailedCut, Sync, FailedSync}
use Rattle.amo_sim_disk.specs.Calls.{has_failed, is_planned, read_after}

-- The bytes that are read, the contents that a crash may leave, and the stale places. A place is
-- stale if the disk may have another byte there though no sync is going to write it.
pub record State : Type 1 where
  pub read : List ℕ
  pub outcomes : List ℕ → Type 0
  pub stale : ℕ → Type 0

-- The contents that a crash may leave after a call. A write is torn. A cut is at some length
-- between, even if it failed. After a sync each byte stands as it is read, but for stale places.
abbrev pub OutcomeAfter : Call → State → List ℕ → Type 0
OutcomeAfter Read s image = s.outcomes image
OutcomeAfter FailedRead s image = s.outcomes image
OutcomeAfter (Write at bytes) s image = TornFrom at (length bytes.items) (read_after (Write at bytes) s.read) s.outcomes image
OutcomeAfter (FailedWrite at bytes front) s image = TornFrom at (length bytes.items) (read_after (FailedWrite at bytes front) s.read) s.outcomes image
OutcomeAfter (Cut len) s image = CutFrom len s.outcomes image
OutcomeAfter (FailedCut len) s image = CutFrom len s.outcomes image
OutcomeAfter Sync s image = s.outcomes image × AgreesBut s.stale s.read image
OutcomeAfter FailedSync s image = s.outcomes image

-- The places that are stale after a call. A write ends that in its range, and a cut after its
-- length. A sync that failed makes each place stale at which some crash would have left another
-- byte than is read.
abbrev pub StaleAfter : Call → State → ℕ → Type 0
StaleAfter Read s i = s.stale i
StaleAfter FailedRead s i = s.stale i
StaleAfter (Write at bytes) s i = s.stale i × IsOutside at (length bytes.items) i
StaleAfter (FailedWrite at bytes front) s i = s.stale i
StaleAfter (Cut len) s i = s.stale i × (i < len)
StaleAfter (FailedCut len) s i = s.stale i
StaleAfter Sync s i = s.stale i
StaleAfter FailedSync s i = s.stale i ⊎ Differs s.outcomes s.read i

-- The state after these calls, the latest of which stands first, on a disk that had these bytes.
abbrev pub state_after : List ℕ → List Call → State
state_after first [] = record { read = first; outcomes = λ image. image ≡ first; stale = λ i. ⊥ }
state_after first (call ∷ earlier) =
    let s = state_after first earlier in
    record { read = read_after call s.read; outcomes = OutcomeAfter call s; stale = StaleAfter call s }

-- The bytes of a disk at first, the number of the call that is to fail, and the calls since, the
-- latest first.
pub record Story : Type 0 where
  pub first : List ℕ
  pub failing : Option ℕ
  pub calls : List Call

-- of calls in their order
abbrev pub story_of : List ℕ → Option ℕ → List Call → Story
story_of first failing calls = record { first = first; failing = failing; calls = reverse calls }

-- with one call more
abbrev pub noted : Call → Story → Story
noted call story = record { first = story.first; failing = story.failing; calls = call ∷ story.calls }

-- whether the next call is to fail
abbrev pub fails_next : Story → Bool
fails_next story = is_planned story.failing (length story.calls)

-- what is read, what a crash may leave, and which places are stale, once all that has happened
abbrev pub read_in : Story → List ℕ
read_in story = (state_after story.first story.calls).read

-- a crash may leave this file after the calls of the story
abbrev pub OutcomeIn : Story → List ℕ → Type 0
OutcomeIn story = (state_after story.first story.calls).outcomes

-- this place is stale after the calls of the story
abbrev pub StaleIn : Story → ℕ → Type 0
StaleIn story = (state_after story.first story.calls).stale

-- how many calls there were, and how many of them failed
abbrev pub call_count : Story → ℕ
call_count story = length story.calls

-- how many of the calls failed
abbrev pub fault_count : Story → ℕ
fault_count story = count_by has_failed story.calls

-- This call is noted and returned, or there was no memory, and nothing has changed.
abbrev pub LeavesNoted : Call → Story → Story → Result (Unit {0}) DeviceError → Type 0
LeavesNoted call old new (Ok done) = (new ≡ noted call old) × (has_failed call ≡ false)
LeavesNoted call old new (Err Failed) = (new ≡ noted call old) × (has_failed call ≡ true)
LeavesNoted call old new (Err Memory) = new ≡ old

-- A call is noted and returned that is of one kind if it is to fail, and of the other if it isn't.
-- Or there was no memory, and nothing has changed.
abbrev pub Leaves : {T : Type 0} → (Bool → Call → Type 0) → Story → Story → Result T DeviceError → Type 0
Leaves Is old new (Ok x) = (call : Call) × Is false call × (new ≡ noted call old) × (fails_next old ≡ false)
Leaves Is old new (Err Failed) = (call : Call) × Is true call × (new ≡ noted call old) × (fails_next old ≡ true)
Leaves Is old new (Err Memory) = new ≡ old
