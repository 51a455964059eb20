-- Why a worker goes no further, before it works in a round.
use Rattle.std.specs.Prelude.{◌≡◌, ◌≢◌, ◌⊎◌, ℕ, ◌≤◌, List, Option, Some, None, Ok}
use Rattle.amo_params.specs.declared.givens.Givens.{Givens}
use Rattle.amo_params.specs.declared.limits.TheConstants.{MAX_JOBS, MAX_WORKERS}
use Rattle.amo_params.specs.Givens.{givens_of}
use Rattle.amo_host.specs.declared.model.RunLock.TheVariants.{Guard, Round}
use Rattle.amo_host.specs.Calls.{ReadLog, LogIs, Fell}
use Rattle.amo_host.specs.Logs.{Logs, logs_after}
use Rattle.amo_host.specs.declared.model.LogFile.{LogFile}
use Rattle.amo_host.specs.Phase.{Identity, Phase, Starts, Unborn, Ended}
use Rattle.amo_host.specs.Protocol.{Lives, Moves}
use Rattle.amo_run_files.specs.declared.extent.Extent.{Extent}
use Rattle.amo_run_files.specs.declared.header.RoundHeader.{RoundHeader}
use Rattle.amo_run_files.specs.declared.round_file.RoundFile.{RoundFile}
use Rattle.amo_run_files.specs.Heads.{head_of}
use Rattle.amo_run_files.specs.Records.{said_by}
use Rattle.amo_run_files.specs.Rounds.{seat_of}
use Rattle.amo_worker_life.specs.declared.halt.Halt.{Halt}
use Rattle.amo_worker_life.specs.declared.halt.Halt.TheVariants as H
use Rattle.amo_worker_life.specs.declared.life.Ending.{Ending}
use Rattle.amo_worker_life.specs.declared.life.Ending.TheVariants as E
use Rattle.amo_driver.specs.declared.stop.Stop.TheVariants.{Failed}
use Rattle.amo_worker_life.specs.Where.{idle_at, HasFailed, HasFailedAsking}

-- The phase in which a worker then is, by the reason. It may call nothing any more if a call has
-- failed, a log can't be read, or the last round is another one. If another process has a lock, the
-- worker's phase is that of before the try. The other reasons say nothing of the phase.
abbrev pub HaltsBy : (Phase → Type 0) → Identity → (read : Option Logs) → Halt → Type 0
HaltsBy stands me read H.Host = stands Ended
HaltsBy stands me read (H.Unread log) = stands Ended
HaltsBy stands me read (H.Held (Guard number)) = stands (Starts number Unborn)
HaltsBy stands me read (H.Held Round) = stands (idle_at me read)
HaltsBy stands me read (H.Entry number) = stands Ended
HaltsBy stands me read H.OtherRound = stands Ended
HaltsBy stands me read _ = Lives stands

-- There is a reason, and the worker is in the phase to which it leads.
abbrev pub Halts : (Phase → Type 0) → Identity → (read : Option Logs) → Option Halt → Type 0
Halts stands me read halt = (why : Halt) × (halt ≡ Some why) × HaltsBy stands me read why

-- The reason why a log isn't read is true: the call failed, or the texts can't follow what was read
-- before. Out of memory says nothing.
abbrev pub IsWhyUnread : Halt → (before after : Phase → Type 0) → (last : Option RoundFile) → LogFile → (old : Logs) → Type 0
IsWhyUnread H.Memory before after last f old = Unit {0}
IsWhyUnread H.Host before after last f old = Moves before after (Fell (ReadLog f last))
IsWhyUnread (H.Unread log) before after last f old = (log ≡ f) × (texts : List (List ℕ)) × (counted : Extent) × Moves before after (LogIs f last texts counted) × (logs_after old f texts ≡ None)
IsWhyUnread _ before after last f old = ⊥

-- The reason why a worker has no seat in a round is true: with these numbers no worker, or not this
-- one, can have one.
abbrev pub IsWhyNoSeat : Halt → (worker : ℕ) → RoundHeader → Type 0
IsWhyNoSeat H.BadRound worker header =
    (givens : Givens) (seat : ℕ) → 1 ≤ header.first → header.first ≤ header.workers → header.workers ≤ MAX_WORKERS
    → givens_of header.givens.jobs header.givens.workers header.givens.beta ≡ Ok givens
    → 1 ≤ seat → seat ≤ header.givens.workers → seat_of worker header.first header.workers header.givens.workers ≢ Some seat
IsWhyNoSeat _ worker header = ⊥

-- The reason why a round has no registers is true: it has impossible numbers. Out of memory says
-- nothing.
abbrev pub IsWhyNoRegisters : Halt → RoundHeader → Type 0
IsWhyNoRegisters H.Memory header = Unit {0}
IsWhyNoRegisters H.BadRound header = header.givens.jobs ≤ MAX_JOBS → header.givens.workers ≤ MAX_WORKERS → head_of (said_by header) ≡ None
IsWhyNoRegisters _ header = ⊥

-- If a life ends since something has failed, there is a reason. The worker is in a phase to which
-- that leads: before a round, while it asked for earlier attempts, or in a round.
abbrev pub HasReason : Ending → (Phase → Type 0) → Identity → (read : Option Logs) → Option Halt → Type 0
HasReason (E.Stopped Failed) stands me read halt =
    Halts stands me read halt ⊎ (HasFailedAsking stands me halt ⊎ ((jobs : List ℕ) × (logs : Logs) × HasFailed stands me jobs logs halt))
HasReason _ stands me read halt = Unit {0}
