-- How a process reads the answers and all journals, to work in a round or to begin one.
use Rattle.std.specs.Prelude.{◌≡◌, ⊤, ℕ, nat_lt, Bool, true, false, List, [], ◌∷◌, ◌++◌, length, Option, Some, None, is_some}
use Rattle.amo_driver.specs.Course.{first_stage}
use Rattle.amo_run_files.specs.declared.extent.Extent.{Extent}
use Rattle.amo_run_files.specs.declared.round_file.RoundFile.{RoundFile}
use Rattle.amo_run_files.specs.Lines.{BeginsWith}
use Rattle.amo_run_files.specs.Refusals.{IsTaken}
use Rattle.amo_run_log.specs.Texts.{ended}
use Rattle.amo_host.specs.declared.model.LogFile.{LogFile}
use Rattle.amo_host.specs.Calls.{Request, ReadLog, Call, LogIs}
use Rattle.amo_host.specs.Logs.{Logs, logs_after, next_serial, others}
use Rattle.amo_host.specs.Phase.{Identity, Purpose, ToWork, ToBegin, Begin, ListHasGrown, KnowsAll, Phase, Begins, Reads, Works, Ended}

-- The file of the last round, with which the logs are compared.
abbrev pub last_for : Purpose → Option RoundFile
last_for (ToWork file givens seat) = Some file
last_for (ToBegin boot last known list) = last

-- Before the logs are read to begin a round, the list must only have grown, and none of its lines
-- may be refused. If there was a round, a last line without its end is left out.
abbrev pub MayReadFor : Purpose → Type 0
MayReadFor (ToWork file givens seat) = ⊤
MayReadFor (ToBegin boot last known list) = BeginsWith known list × IsTaken list (is_some last)

-- The step after all that is needed to begin a round was read, by whether the list has more lines
-- than the run knows.
abbrev pub has_all : (more : Bool) → (boot : List ℕ) → Option RoundFile → Logs → (counts : List Extent) → Begin
has_all true boot last logs counts = ListHasGrown boot last logs counts
has_all false boot last logs counts = KnowsAll boot last logs counts

-- The phase after all logs were read.
abbrev pub reads_all : Identity → Purpose → Logs → (counts : List Extent) → Phase
reads_all me (ToWork file givens seat) logs counts = Works me file.header.lines.items (first_stage givens seat (next_serial logs.journals me.worker)) false logs
reads_all me (ToBegin boot last known list) logs counts = Begins me (has_all (nat_lt (length known) (length (ended me.lines))) boot last logs counts)

-- The phase after these logs were read, and the others are left.
abbrev pub reads_more : Identity → Purpose → Option Logs → (counts : List Extent) → (left : List LogFile) → Phase
reads_more me purpose None counts left = Ended
reads_more me purpose (Some logs) counts (f ∷ left) = Reads me purpose logs counts (f ∷ left)
reads_more me purpose (Some logs) counts [] = reads_all me purpose logs counts

-- The phase after a call.
abbrev pub reads_after : Identity → Purpose → Logs → (counts : List Extent) → (left : List LogFile) → Call → Phase
reads_after me purpose logs counts left (LogIs f last texts counted) = reads_more me purpose (logs_after logs f texts) (counts ++ counted ∷ []) (others left)
reads_after me purpose logs counts left c = Ended

-- The call that it may make: it reads the next log.
abbrev pub MayRead : Purpose → (left : List LogFile) → Request → Type 0
MayRead purpose [] r = ⊥
MayRead purpose (f ∷ left) r = MayReadFor purpose × (r ≡ ReadLog f (last_for purpose))
