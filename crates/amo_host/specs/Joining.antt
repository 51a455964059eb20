-- How a process joins a round: under the lock of the round, which it shares, it reads the round's
-- file and opens its registers.
use Rattle.std.specs.Prelude.{◌≡◌, ◌⊎◌, ℕ, ◌==◌, ◌&&◌, Bool, true, false, List, [], length, Option, Some, None, Result, Ok, Err}
use Rattle.std.specs.Str.{bytes_eq}
use Rattle.amo_params.specs.declared.givens.Givens.{Givens}
use Rattle.amo_params.specs.declared.givens.GivensFault.{GivensFault}
use Rattle.amo_params.specs.Givens.{givens_of}
use Rattle.amo_run_files.specs.declared.header.RoundHeader.{RoundHeader}
use Rattle.amo_run_files.specs.declared.round_file.RoundFile.{RoundFile}
use Rattle.amo_run_files.specs.Heads.{head_of}
use Rattle.amo_run_files.specs.Records.{said_by}
use Rattle.amo_run_files.specs.Rounds.{seat_of}
use Rattle.amo_run_files.specs.Words.{words_len}
use Rattle.amo_host.specs.declared.model.RunLock.TheVariants.{Round}
use Rattle.amo_host.specs.Calls.{Request, Unlock, SyncFolder, ReadBoot, ReadRound, ReadJobs, OpenRegisters, Call, HasUnlocked, FolderIsSynced, BootIs, RoundIs, JobsAre, RegistersAre}
use Rattle.amo_host.specs.Logs.{Logs, all_logs, logs_before}
use Rattle.amo_host.specs.Phase.{Identity, Join, Locked, Booted, HasHeader, HasJobs, Seated, ToWork, Phase, Joins, Reads, Over, Ended}

-- Whether the file of the registers begins with this head.
abbrev pub has_head : (front : List ℕ) → (head : Option (List ℕ)) → Bool
has_head front None = false
has_head front (Some head) = bytes_eq front head

-- Whether registers are those of this round, by how many bytes their file has, and by the first
-- ones.
abbrev pub are_of : RoundHeader → Option (ℕ × List ℕ) → Bool
are_of header None = false
are_of header (Some file) = (file.0 == words_len header.givens) && has_head file.1 (head_of (said_by header))

-- The phase after the file of a round was read, by whether it is of this boot.
abbrev pub has_header_if : Identity → Option Logs → RoundFile → Bool → Phase
has_header_if me prior file true = Joins me (HasHeader prior file)
has_header_if me prior file false = Ended

-- The phase after the file of the last round was read, in this boot.
abbrev pub has_header : Identity → Option Logs → (boot : List ℕ) → Option RoundFile → Phase
has_header me prior boot None = Ended
has_header me prior boot (Some file) = has_header_if me prior file (bytes_eq file.header.boot.items boot)

-- The phase after the registers of this round were opened, by its seat and its givens, and by
-- whether the registers are that round's.
abbrev pub seated : Identity → Option Logs → RoundFile → (seat : Option ℕ) → Result Givens GivensFault → (fits : Bool) → Phase
seated me prior file (Some seat) (Ok givens) true = Joins me (Seated prior file givens seat)
seated me prior file (Some seat) (Ok givens) false = Ended
seated me prior file (Some seat) (Err fault) fits = Ended
seated me prior file None givens fits = Ended

-- The phase after the registers were opened.
abbrev pub seated_in : Identity → Option Logs → RoundFile → RoundHeader → (registers : Option (ℕ × List ℕ)) → Phase
seated_in me prior file h registers =
    seated me prior file (seat_of me.worker h.first h.workers h.givens.workers) (givens_of h.givens.jobs h.givens.workers h.givens.beta) (are_of h registers)

-- The phase after a call. A process that unlocks the round takes no part in it. It is then in the
-- phase that follows its part.
abbrev pub joins_on : Identity → Join → Call → Phase
joins_on me (Locked prior) (BootIs boot) = Joins me (Booted prior boot)
joins_on me (Booted prior boot) (RoundIs last) = has_header me prior boot last
joins_on me (HasHeader prior file) (JobsAre last lines) = Joins (record me { lines = lines }) (HasJobs prior file)
joins_on me (HasHeader prior file) (HasUnlocked lock) = Over me (logs_before (length me.lines) prior)
joins_on me (HasJobs prior file) (RegistersAre front registers) = seated_in me prior file file.header registers
joins_on me (Seated prior file givens seat) FolderIsSynced = Reads me (ToWork file givens seat) (logs_before (length me.lines) prior) [] all_logs
joins_on me join c = Ended

-- The calls that each step allows. Once it has read the round's file, a process may unlock the
-- round and take no part in it. No line depends on that.
abbrev pub MayJoin : Join → Request → Type 0
MayJoin (Locked prior) r = r ≡ ReadBoot
MayJoin (Booted prior boot) r = r ≡ ReadRound
MayJoin (HasHeader prior file) r = (r ≡ ReadJobs (Some file)) ⊎ (r ≡ Unlock Round)
MayJoin (HasJobs prior file) r = (front : ℕ) × (r ≡ OpenRegisters front)
MayJoin (Seated prior file givens seat) r = r ≡ SyncFolder
