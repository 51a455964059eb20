-- The logs that a worker has read, and the phase after it reads on.
use Rattle.std.specs.Prelude.{◌≡◌, ℕ, ◌⊎◌, Bool, true, false, List, [], ◌∷◌, ◌++◌, length, map, Option, Some, None}
use Rattle.amo_process.specs.Stepped.{ProcessView}
use Rattle.amo_driver.specs.Stage.{Clearing}
use Rattle.amo_run_files.specs.declared.extent.Extent.{Extent}
use Rattle.amo_run_files.specs.declared.round_file.RoundFile.{RoundFile}
use Rattle.amo_run_log.specs.declared.read_logs.ReadLogs.{ReadLogs}
use Rattle.amo_host.specs.declared.model.LogFile.{LogFile}
use Rattle.amo_host.specs.Calls.{HasRead, LogIs, ReadOn, Fell}
use Rattle.amo_host.specs.Logs.{Logs, all_logs, logs_after}
use Rattle.amo_host.specs.Phase.{Identity, Phase, Purpose, Reads as ReadsFor, Works, Unclear}
use Rattle.amo_host.specs.Protocol.{reads_on, Moves}
use Rattle.amo_host.specs.Reading.{last_for, reads_more, MayReadFor}

-- The contents of these logs.
abbrev pub logs_of : ReadLogs → Logs
logs_of logs = record {
  count = length logs.attempts.lines.items;
  findings = logs.findings.items;
  journals = map (λ journal. journal.items) logs.attempts.journals.items;
}

-- The logs after a call that returns whether these texts could be added.
abbrev pub Adds : Bool → (old : Logs) → LogFile → List (List ℕ) → (new : Logs) → Type 0
Adds true old f texts new = logs_after old f texts ≡ Some new
Adds false old f texts new = logs_after old f texts ≡ None

-- It may read all logs, for some purpose.
abbrev pub MayReadAll : (Phase → Type 0) → Identity → (last : Option RoundFile) → Logs → Type 0
MayReadAll stands me last logs = (purpose : Purpose) × MayReadFor purpose × (last_for purpose ≡ last) × stands (ReadsFor me purpose logs [] all_logs)

-- If it might read all logs for a purpose, it is in the phase after these were read, and the others
-- are left.
abbrev pub ReadsTo : (before after : Phase → Type 0) → Identity → (last : Option RoundFile) → (first logs : Logs) → (counts : List Extent) → (left : List LogFile) → Type 0
ReadsTo before after me last first logs counts left =
    (purpose : Purpose) → MayReadFor purpose → last_for purpose ≡ last → before (ReadsFor me purpose first [] all_logs)
    → after (reads_more me purpose (Some logs) counts left)

-- A call that read this log, and how many of its appends stay on the disk.
abbrev pub ReadsLog : (before after : Phase → Type 0) → (last : Option RoundFile) → LogFile → (old new : Logs) → (counts more : List Extent) → Type 0
ReadsLog before after last f old new counts more =
    (texts : List (List ℕ)) × (counted : Extent) × Moves before after (LogIs f last texts counted) × (logs_after old f texts ≡ Some new) × (more ≡ counts ++ counted ∷ [])

-- A call that returns whether it could read this log on: if it couldn't, the host's call failed, or
-- the texts can't follow.
abbrev pub ReadsOne : Bool → (before after : Phase → Type 0) → LogFile → (old new : Logs) → Type 0
ReadsOne true before after f old new = (texts : List (List ℕ)) × Moves before after (HasRead f texts) × (logs_after old f texts ≡ Some new)
ReadsOne false before after f old new =
    Moves before after (Fell (ReadOn f)) ⊎ ((texts : List (List ℕ)) × Moves before after (HasRead f texts) × (logs_after old f texts ≡ None))

-- It asks for the clearance of the attempt of this serial number at this job.
abbrev pub IsClearing : (Phase → Type 0) → Identity → (jobs : List ℕ) → (serial job : ℕ) → Logs → Type 0
IsClearing stands me jobs s j logs = (a : ProcessView) × (owes : Bool) × stands (Works me jobs (Clearing s a j) owes logs)

-- If it asked for that before, it is in the phase after these logs were read, and these are left.
abbrev pub Reads : (before after : Phase → Type 0) → Identity → (jobs : List ℕ) → (serial job : ℕ) → (first logs : Logs) → (left : List LogFile) → Type 0
Reads before after me jobs s j first logs left =
    (a : ProcessView) (owes : Bool) → before (Works me jobs (Clearing s a j) owes first) → after (reads_on me jobs s a j (Some logs) left)

-- A call that returns whether it could read all logs on.
abbrev pub ReadsAll : Bool → (before after : Phase → Type 0) → Identity → (jobs : List ℕ) → (serial job : ℕ) → (old new : Logs) → Type 0
ReadsAll true before after me jobs s j old new = Reads before after me jobs s j old new []
ReadsAll false before after me jobs s j old new = after (Unclear s)
