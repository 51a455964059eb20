-- How a process begins a round: under the lock of the round, which it has alone, it reads all that
-- there is, and makes the round's files.
use Rattle.std.specs.Prelude.{◌≡◌, ◌⊎◌, ℕ, ◌+◌, ◌-◌, ◌^◌, ◌==◌, List, [], ◌∷◌, ◌++◌, length, replicate, take, Option, Some, None, if◌then◌else◌}
use Rattle.amo_params.specs.declared.limits.TheConstants.{MAX_JOBS}
use Rattle.amo_run_files.specs.declared.extent.Extent.{Extent}
use Rattle.amo_run_files.specs.declared.header.RoundHeader.{RoundHeader}
use Rattle.amo_run_files.specs.declared.round_file.RoundFile.{RoundFile}
use Rattle.amo_run_files.specs.Extents.{extent_said, extent_of_jobs}
use Rattle.amo_run_files.specs.Heads.{head_of}
use Rattle.amo_run_files.specs.Lines.{lines_in}
use Rattle.amo_run_files.specs.Records.{said_by}
use Rattle.amo_run_files.specs.Rounds.{givens_of}
use Rattle.amo_run_files.specs.Words.{words_len}
use Rattle.amo_run_log.specs.Findings.{AreInPlace}
use Rattle.amo_run_log.specs.Open.{open_lines}
use Rattle.amo_run_log.specs.Texts.{ended}
use Rattle.amo_host.specs.declared.model.RunLock.TheVariants.{Round}
use Rattle.amo_host.specs.Calls.{Request, Unlock, ReadBoot, ReadRound, ReadJobs, ReadList, MakeJobs, MakeRound, MakeRegisters, Call, HasUnlocked, BootIs, RoundIs, JobsAre, ListIs, JobsAreMade, RoundIsMade, RegistersAreMade}
use Rattle.amo_host.specs.Logs.{Logs, all_logs, logs_before}
use Rattle.amo_host.specs.Phase.{Identity, Begin, LockedAlone, BootedAlone, HasLast, KnowsJobs, ListHasGrown, KnowsAll, RoundMade, RegistersMade, ToBegin, Phase, Idle, Begins, Reads, Ended}

-- The number of the round after the last one, rounds being counted from 1. The highest number stays
-- as it is.
abbrev pub round_after : Option RoundFile → ℕ
round_after None = 1
round_after (Some last) = if last.header.round == 2 ^ 64 - 1 then last.header.round else last.header.round + 1

-- The header is of a round of this boot that this worker begins, of the first of these open lines.
pub record IsNext (worker : ℕ) (boot : List ℕ) (last : Option RoundFile) (lines : List ℕ) (header : RoundHeader) : Type 0 where
  pub round : header.round ≡ round_after last
  pub boot_is : header.boot.items ≡ boot
  pub first : header.first ≡ worker
  pub lines_are : header.lines.items ≡ take MAX_JOBS lines
  -- the threshold is the one that was asked for, if it fits
  pub shared : (beta : ℕ) × (header.givens ≡ givens_of (length header.lines.items) header.workers beta)

-- The extents are those of these lines, and of the logs that were read.
abbrev pub AreCounted : (lines : List (List ℕ)) → (counts : List Extent) → (extents : List Extent) → Type 0
AreCounted lines counts extents = (of_jobs : Extent) × (extent_said of_jobs ≡ extent_of_jobs (ended lines)) × (extents ≡ of_jobs ∷ counts)

-- The open lines of a run, by what was read of its logs.
abbrev pub open_by : Identity → Logs → List ℕ
open_by me logs = open_lines logs.findings logs.journals (length me.lines)

-- The file is that of the round that is to be begun.
pub record IsNextFile (me : Identity) (boot : List ℕ) (last : Option RoundFile) (logs : Logs) (counts : List Extent) (file : RoundFile) : Type 0 where
  pub next : IsNext me.worker boot last (open_by me logs) file.header
  -- each answer is of an attempt that was read, and no two are of one
  pub placed : AreInPlace logs.journals logs.findings
  pub counted : AreCounted me.lines counts file.extents.items

-- It may make the file of the round that is to be begun.
abbrev pub MayBegin : Identity → (boot : List ℕ) → Option RoundFile → Logs → (counts : List Extent) → Request → Type 0
MayBegin me boot last logs counts r = (file : RoundFile) × IsNextFile me boot last logs counts file × (r ≡ MakeRound file)

-- The registers of a round that nobody has stored to.
abbrev pub AreNew : RoundHeader → (bytes : List ℕ) → Type 0
AreNew header bytes = (head : List ℕ) × (head_of (said_by header) ≡ Some head) × (bytes ≡ head ++ replicate (words_len header.givens - length head) 0)

-- The phase after the list was read: it reads the logs as of a run of so many lines.
abbrev pub listed : (worker : ℕ) → (known list : List ℕ) → (lines : List (List ℕ)) → (prior : Option Logs) → (boot : List ℕ) → Option RoundFile → Phase
listed worker known list lines prior boot last =
    Reads (record { worker = worker; lines = lines }) (ToBegin boot last known list) (logs_before (length lines) prior) [] all_logs

-- The phase after a call.
abbrev pub begins_on : Identity → Begin → Call → Phase
begins_on me (LockedAlone prior) (BootIs boot) = Begins me (BootedAlone prior boot)
begins_on me (BootedAlone prior boot) (RoundIs last) = Begins me (HasLast prior boot last)
begins_on me (HasLast prior boot last) (JobsAre from lines) = Begins (record me { lines = lines }) (KnowsJobs prior boot last)
begins_on me (KnowsJobs prior boot last) (ListIs bytes) = listed me.worker (ended me.lines) bytes (lines_in bytes) prior boot last
begins_on me (ListHasGrown boot last logs counts) (JobsAreMade bytes) = Begins me (KnowsAll boot last logs counts)
begins_on me (KnowsAll boot last logs counts) (RoundIsMade file) = Begins me (RoundMade file logs)
begins_on me (KnowsAll boot last logs counts) (HasUnlocked lock) = Idle me logs
begins_on me (RoundMade file logs) (RegistersAreMade bytes) = Begins me (RegistersMade logs)
begins_on me (RegistersMade logs) (HasUnlocked lock) = Idle me logs
begins_on me begin c = Ended

-- The calls that each step allows.
abbrev pub MayDo : Identity → Begin → Request → Type 0
MayDo me (LockedAlone prior) r = r ≡ ReadBoot
MayDo me (BootedAlone prior boot) r = r ≡ ReadRound
MayDo me (HasLast prior boot last) r = r ≡ ReadJobs last
MayDo me (KnowsJobs prior boot last) r = r ≡ ReadList
MayDo me (ListHasGrown boot last logs counts) r = r ≡ MakeJobs (ended me.lines)
MayDo me (KnowsAll boot last logs counts) r = MayBegin me boot last logs counts r ⊎ (r ≡ Unlock Round)
MayDo me (RoundMade file logs) r = (bytes : List ℕ) × AreNew file.header bytes × (r ≡ MakeRegisters bytes)
MayDo me (RegistersMade logs) r = r ≡ Unlock Round
