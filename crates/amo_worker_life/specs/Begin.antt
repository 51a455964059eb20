-- How a worker begins a round.
use Rattle.std.specs.Prelude.{◌≡◌, ◌≢◌, ℕ, Bool, true, false, List, [], Option, Some}
use Rattle.amo_run_files.specs.declared.extent.Extent.{Extent}
use Rattle.amo_run_files.specs.declared.fault.JobsFault.TheVariants as J
use Rattle.amo_run_files.specs.declared.round_file.RoundFile.{RoundFile}
use Rattle.amo_run_files.specs.Lines.{BeginsWith}
use Rattle.amo_run_files.specs.Refusals.{IsRefused}
use Rattle.amo_run_log.specs.declared.finding.Finding.{Finding}
use Rattle.amo_run_log.specs.declared.journal.Attempt.{Attempt}
use Rattle.amo_run_log.specs.Findings.{IsOutOfPlace}
use Rattle.amo_host.specs.Beginning.{open_by, IsNextFile}
use Rattle.amo_host.specs.Logs.{Logs}
use Rattle.amo_host.specs.Phase.{Identity, KnowsAll, LockedAlone, Phase, Begins}
use Rattle.amo_worker_life.specs.declared.halt.Halt.{Halt}
use Rattle.amo_worker_life.specs.declared.halt.Halt.TheVariants as H
use Rattle.amo_worker_life.specs.declared.beginning.Begun.{Begun}
use Rattle.amo_worker_life.specs.declared.beginning.Begun.TheVariants as B
use Rattle.amo_worker_life.specs.declared.life.Ending.{Ending}
use Rattle.amo_worker_life.specs.declared.life.Ending.TheVariants as E
use Rattle.amo_worker_life.specs.Where.{idle_at}

-- The phase after the lock of the round was tried, alone.
abbrev pub locks_if : (got : Bool) → Identity → Option Logs → Phase
locks_if true me prior = Begins me (LockedAlone prior)
locks_if false me prior = idle_at me prior

-- It knows all that it needs, and this is the file of the round that is to be begun.
abbrev pub MayMake : (Phase → Type 0) → Identity → Logs → RoundFile → Type 0
MayMake stands me logs file =
    (boot : List ℕ) × (last : Option RoundFile) × (counts : List Extent) × stands (Begins me (KnowsAll boot last logs counts)) × IsNextFile me boot last logs counts file

-- The reason why a list isn't taken in place of what is known is true. Out of memory says nothing.
abbrev pub IsWhyNotTaken : Halt → (known list : List ℕ) → (cut : Bool) → Type 0
IsWhyNotTaken H.Memory known list cut = Unit {0}
IsWhyNotTaken (H.Changed number) known list cut = ¬ (BeginsWith known list)
IsWhyNotTaken (H.List number why) known list cut = BeginsWith known list × IsRefused list cut (J.Refused number why)
IsWhyNotTaken _ known list cut = ⊥

-- The reason why no round is begun by these answers is true: the one of this number is out of
-- place. Out of memory says nothing.
abbrev pub IsWhyNoneOpen : Halt → (journals : List (List Attempt)) → (findings : List Finding) → Type 0
IsWhyNoneOpen H.Memory journals findings = Unit {0}
IsWhyNoneOpen (H.Misplaced number) journals findings = IsOutOfPlace journals findings number
IsWhyNoneOpen _ journals findings = ⊥

-- A round was begun if a line is open by the logs that were read, and none if no line is. By a
-- worker that has the lock of the round.
abbrev pub IsMade : Begun → Identity → (read : Option Logs) → Type 0
IsMade (B.NothingOpen len) me read = (logs : Logs) × (read ≡ Some logs) × (open_by me logs ≡ [])
IsMade B.Round me read = (logs : Logs) × (read ≡ Some logs) × (open_by me logs ≢ [])
IsMade B.Elsewhere me read = ⊥

-- By a worker that may not have got the lock.
abbrev pub IsBegun : Begun → Identity → (read : Option Logs) → Type 0
IsBegun B.Elsewhere me read = Unit {0}
IsBegun begun me read = IsMade begun me read

-- If a life ends since no line is open, none is, by the logs that were read.
abbrev pub EndsWell : Ending → Identity → (read : Option Logs) → Type 0
EndsWell (E.NothingOpen len) me read = (logs : Logs) × (read ≡ Some logs) × (open_by me logs ≡ [])
EndsWell _ me read = Unit {0}
