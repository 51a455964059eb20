-- How a process takes its number: the lock on its journal first, and the journal is recovered under
-- it.
use Rattle.std.specs.Prelude.{◌≡◌, ℕ, Bool, true, false, List, length, map, Option, Some, None}
use Rattle.amo_driver.specs.declared.past.Intent.{Intent}
use Rattle.amo_driver.specs.Stage.{Asking}
use Rattle.amo_run_log.specs.declared.journal.Attempt.{Attempt}
use Rattle.amo_run_log.specs.Journals.{attempts_in, pending_from}
use Rattle.amo_host.specs.declared.model.Hold.TheVariants.{Exclusive}
use Rattle.amo_host.specs.declared.model.RunLock.TheVariants.{Guard}
use Rattle.amo_host.specs.Calls.{Request, TryLock, CheckFolder, SyncFolder, ReadRound, Recover, ReadJobs, Call, Tried, FolderIsKept, FolderIsSynced, RoundIs, Recovered, JobsAre}
use Rattle.amo_host.specs.Phase.{Start, Unborn, Guards, Checked, Knows, HasRecovered, Settled, Phase, Starts, Asks, Ended}

-- An attempt, by its serial number and its line.
abbrev pub intent_of : ℕ × ℕ → Intent
intent_of i = record { serial = i.0; line = i.1 }

-- The attempts of a journal that are pending, in order.
abbrev pub pending_of : List Attempt → List Intent
pending_of attempts = map intent_of (pending_from 1 attempts)

-- The phase after it knows the lines of its run, and so what the appends of its journal say: it
-- asks for what is pending. If they can't follow each other, the journal is refused.
abbrev pub asks_first : (worker : ℕ) → (lines : List (List ℕ)) → Option (List Attempt) → Phase
asks_first worker lines None = Ended
asks_first worker lines (Some attempts) = Asks (record { worker = worker; lines = lines }) (Asking (pending_of attempts))

-- The phase after the guard was tried.
abbrev pub guards_if : (worker : ℕ) → Bool → Phase
guards_if worker true = Starts worker Guards
guards_if worker false = Starts worker Unborn

-- The phase after a call.
abbrev pub starts_on : (worker : ℕ) → Start → Call → Phase
starts_on worker Unborn (Tried lock hold got) = guards_if worker got
starts_on worker Guards FolderIsKept = Starts worker Checked
starts_on worker Checked (RoundIs last) = Starts worker (Knows last)
starts_on worker (Knows last) (Recovered from texts) = Starts worker (HasRecovered last texts)
starts_on worker (HasRecovered last texts) FolderIsSynced = Starts worker (Settled last texts)
starts_on worker (Settled last texts) (JobsAre from lines) = asks_first worker lines (attempts_in (length lines) texts)
starts_on worker start c = Ended

-- The one call that each step allows.
abbrev pub MayStart : (worker : ℕ) → Start → Request → Type 0
MayStart worker Unborn r = r ≡ TryLock (Guard worker) Exclusive
MayStart worker Guards r = r ≡ CheckFolder
MayStart worker Checked r = r ≡ ReadRound
MayStart worker (Knows last) r = r ≡ Recover last
MayStart worker (HasRecovered last texts) r = r ≡ SyncFolder
MayStart worker (Settled last texts) r = r ≡ ReadJobs last
