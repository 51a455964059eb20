-- The calls of an operator's command on the operating system, and what comes of them.
use Rattle.std.specs.Prelude.{ℕ, Bool, List, Option}
use Rattle.amo_run_files.specs.declared.round_file.RoundFile.{RoundFile}
use Rattle.amo_run_log.specs.declared.finding.Finding.{Finding}
use Rattle.amo_status.specs.declared.state.AttemptId.{AttemptId}
use Rattle.amo_host.specs.declared.model.LogFile.{LogFile}
use Rattle.amo_operator.specs.declared.model.OperatorLock.{OperatorLock}

-- A call as it is made, before anything has come of it. A process that is killed in a call has made
-- a request.
pub data Request : Type 0 where
  -- To try a lock once.
  TryLock : OperatorLock → Request
  -- To unlock the journal of this worker.
  Unlock : (worker : ℕ) → Request
  UnlockAll : Request
  -- To check that the folder is still the run's, and if `kept` is true, that the run was not given up.
  CheckFolder : (kept : Bool) → Request
  -- To read the file of the last round, by its seal.
  ReadRound : Request
  -- To read answers or a journal, and compare what was read with what the file of the last round counts.
  ReadLog : LogFile → (last : Option RoundFile) → Request
  -- To compare answers or a journal with what the file of the last round counts, and recover them.
  Recover : LogFile → (last : Option RoundFile) → Request
  -- To read the lines that the run knows, and compare them with what the file of the last round counts.
  ReadJobs : (last : Option RoundFile) → Request
  ReadClock : Request
  -- To append to the journal of its worker that this attempt is in doubt, and ended at this time.
  PutDoubt : AttemptId → (time : ℕ) → Request
  -- To remove the file that the command of this attempt had locked.
  RemoveCommandFile : AttemptId → Request
  -- To append this answer to the answers.
  PutAnswer : Finding → Request
  -- To print this text.
  Print : List ℕ → Request

-- A call with what came of it.
pub data Call : Type 0 where
  -- whether the lock was got
  Tried : OperatorLock → Bool → Call
  HasUnlocked : (worker : ℕ) → Call
  HasUnlockedAll : Call
  FolderIsKept : (kept : Bool) → Call
  -- none if no round was begun
  RoundIs : Option RoundFile → Call
  -- the texts of all appends
  LogIs : LogFile → (last : Option RoundFile) → (texts : List (List ℕ)) → Call
  Recovered : LogFile → (last : Option RoundFile) → (texts : List (List ℕ)) → Call
  -- the lines, without their ends
  JobsAre : (last : Option RoundFile) → (lines : List (List ℕ)) → Call
  -- in seconds since 1970
  TimeIs : ℕ → Call
  -- every crash from now on leaves it there
  HasPutDoubt : AttemptId → (time : ℕ) → Call
  HasRemoved : AttemptId → Call
  -- every crash from now on leaves it there
  HasPutAnswer : Finding → Call
  HasPrinted : List ℕ → Call
  -- It has failed: it may or may not have come about.
  Fell : Request → Call

-- what was requested in a call
abbrev pub request_of : Call → Request
request_of (Tried lock got) = TryLock lock
request_of (HasUnlocked worker) = Unlock worker
request_of HasUnlockedAll = UnlockAll
request_of (FolderIsKept kept) = CheckFolder kept
request_of (RoundIs last) = ReadRound
request_of (LogIs log last texts) = ReadLog log last
request_of (Recovered log last texts) = Recover log last
request_of (JobsAre last lines) = ReadJobs last
request_of (TimeIs time) = ReadClock
request_of (HasPutDoubt attempt time) = PutDoubt attempt time
request_of (HasRemoved attempt) = RemoveCommandFile attempt
request_of (HasPutAnswer answer) = PutAnswer answer
request_of (HasPrinted text) = Print text
request_of (Fell request) = request
