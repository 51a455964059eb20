-- The calls of a process of the run on the operating system, and what comes of them.
use Rattle.std.specs.Prelude.{ℕ, Bool, List, Option}
use Rattle.amo_run_files.specs.declared.extent.Extent.{Extent}
use Rattle.amo_run_files.specs.declared.round_file.RoundFile.{RoundFile}
use Rattle.amo_run_log.specs.declared.entry.Entry.{Entry}
use Rattle.amo_host.specs.declared.model.Hold.{Hold}
use Rattle.amo_host.specs.declared.model.LogFile.{LogFile}
use Rattle.amo_host.specs.declared.model.RunLock.{RunLock}

-- A call as it is made, before anything has come of it. A process that is killed in a call has made
-- a request.
pub data Request : Type 0 where
  -- To try a lock once.
  TryLock : RunLock → Hold → Request
  Unlock : RunLock → Request
  -- To check that the folder is still the run's, which was not given up, and that a journal whose guard is held still has its name.
  CheckFolder : Request
  SyncFolder : Request
  -- To read the id that the machine has had since it was started.
  ReadBoot : Request
  -- To read the file of the last round, by its seal.
  ReadRound : Request
  -- To compare the worker's journal with what the file of the last round counts of it, and recover it.
  Recover : Option RoundFile → Request
  -- To read the lines that the run knows, and compare them with what the file of the last round counts.
  ReadJobs : Option RoundFile → Request
  -- To open the registers of the last round, and read so many bytes from the front of their file.
  OpenRegisters : (front : ℕ) → Request
  -- To read the user's list, and sync it.
  ReadList : Request
  -- To read answers or a journal from their beginning, or on if they were read before, and compare what was read with what the file of the
  -- last round counts.
  ReadLog : LogFile → (last : Option RoundFile) → Request
  -- To put a file with these bytes in the place of the lines that the run knows, synced.
  MakeJobs : List ℕ → Request
  -- To put this file in the place of that of the last round, synced.
  MakeRound : RoundFile → Request
  -- To put a file with these bytes in the place of the registers.
  MakeRegisters : List ℕ → Request
  LoadRegister : (register : ℕ) → Request
  StoreRegister : (register value : ℕ) → Request
  -- To note, for a log alone, that the registers show this job claimed and not recorded as done.
  PassOver : (job : ℕ) → Request
  -- To append an entry to the worker's journal, in one append with what is owed to it.
  Put : Entry → Request
  -- To owe the journal an entry, which its next append takes along.
  Owe : Entry → Request
  -- To append what is owed to the journal.
  Pay : Request
  -- To read answers or a journal on, from the last append that was read of it.
  ReadOn : LogFile → Request
  -- To say this line to the runner, and wait for its reply.
  Say : List ℕ → Request

-- A call with what came of it.
pub data Call : Type 0 where
  -- whether the lock was got
  Tried : RunLock → Hold → Bool → Call
  HasUnlocked : RunLock → Call
  FolderIsKept : Call
  FolderIsSynced : Call
  BootIs : List ℕ → Call
  -- none if no round was begun
  RoundIs : Option RoundFile → Call
  -- the texts of the journal's appends
  Recovered : Option RoundFile → (texts : List (List ℕ)) → Call
  -- the lines, without their ends
  JobsAre : Option RoundFile → (lines : List (List ℕ)) → Call
  -- how many bytes the file has, and its first ones; none if the file is missing or shorter
  RegistersAre : (front : ℕ) → Option (ℕ × List ℕ) → Call
  ListIs : List ℕ → Call
  -- the texts of the appends that were not read before, and how many of all that were read are on the disk for good
  LogIs : LogFile → (last : Option RoundFile) → (texts : List (List ℕ)) → (counted : Extent) → Call
  JobsAreMade : List ℕ → Call
  RoundIsMade : RoundFile → Call
  RegistersAreMade : List ℕ → Call
  Loaded : (register value : ℕ) → Call
  Stored : (register value : ℕ) → Call
  PassedOver : (job : ℕ) → Call
  -- every crash from now on leaves the entry, and what was owed before it
  HasPut : Entry → Call
  HasOwed : Entry → Call
  HasPaid : Call
  -- the texts of the appends that were not read before
  HasRead : LogFile → List (List ℕ) → Call
  -- the line that was said, and the reply without its end; none if no whole line came
  Heard : List ℕ → Option (List ℕ) → Call
  -- it has failed: it may or may not have come about
  Fell : Request → Call

-- what was requested in a call
abbrev pub request_of : Call → Request
request_of (Tried lock hold got) = TryLock lock hold
request_of (HasUnlocked lock) = Unlock lock
request_of FolderIsKept = CheckFolder
request_of FolderIsSynced = SyncFolder
request_of (BootIs boot) = ReadBoot
request_of (RoundIs last) = ReadRound
request_of (Recovered last texts) = Recover last
request_of (JobsAre last lines) = ReadJobs last
request_of (RegistersAre front file) = OpenRegisters front
request_of (ListIs bytes) = ReadList
request_of (LogIs log last texts counted) = ReadLog log last
request_of (JobsAreMade bytes) = MakeJobs bytes
request_of (RoundIsMade file) = MakeRound file
request_of (RegistersAreMade bytes) = MakeRegisters bytes
request_of (Loaded register value) = LoadRegister register
request_of (Stored register value) = StoreRegister register value
request_of (PassedOver job) = PassOver job
request_of (HasPut entry) = Put entry
request_of (HasOwed entry) = Owe entry
request_of HasPaid = Pay
request_of (HasRead log texts) = ReadOn log
request_of (Heard line reply) = Say line
request_of (Fell request) = request
