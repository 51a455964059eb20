-- The calls of a door on the operating system, and what comes of them.
use Rattle.std.specs.Prelude.{ℕ, Bool, List, Option}
use Rattle.amo_dir_admission.specs.declared.model.Place.{Place}
use Rattle.amo_dir_admission.specs.declared.model.RunFile.{RunFile}
use Rattle.amo_dir_admission.specs.declared.names.FolderFile.{FolderFile}

-- A call as it is made, before anything has come of it. A process that is killed in a call has made
-- a request.
pub data Request : Type 0 where
  -- To see whether something has the folder's name.
  LookUp : Request
  -- To see whether that is a folder.
  AskFolder : Request
  -- To see whether the folder is this user's.
  AskOwner : Request
  -- To check that a folder is on a file system that is taken.
  CheckDisk : Place → Request
  ReadRecord : Request
  -- To see whether the folder has an id.
  ReadId : Request
  -- To see whether a file of the run is there, and how many bytes it has.
  Measure : RunFile → Request
  -- To list the files in the folder.
  ListFiles : Request
  -- To check that the user's list can be that of this run.
  CheckList : Request
  -- To draw a name in a folder that nobody else has.
  DrawName : Place → Request
  -- To draw an id that no other run has.
  DrawId : Request
  -- To make the run's folder, without files.
  MakeFolder : Request
  -- To make a folder of the name that was drawn.
  MakeBeside : Request
  -- To make a file in that folder.
  MakeFile : RunFile → (bytes : List ℕ) → Request
  SyncBeside : Request
  -- To give that folder the name of the run's.
  Rename : Request
  -- To remove that folder.
  RemoveBeside : Request
  -- To try the lock of the round once.
  TryLock : Request
  Unlock : Request
  -- To make a file of the run, unless it is there: whole under another name first.
  Put : RunFile → (bytes : List ℕ) → Request
  -- To put a file in the place of a file of the run: whole under another name first.
  Replace : RunFile → (bytes : List ℕ) → Request
  -- To sync the run's folder.
  SyncFolder : Request
  -- To sync the folder that holds the run's.
  SyncAbove : Request

-- A call with what came of it.
pub data Call : Type 0 where
  IsThere : Bool → Call
  IsFolder : Bool → Call
  IsOwn : Bool → Call
  DiskIsTaken : Place → Call
  -- the bytes of the record, if there is one
  RecordIs : Option (List ℕ) → Call
  HasId : Bool → Call
  -- how many bytes the file has, if it is there
  LenIs : RunFile → Option ℕ → Call
  FilesAre : List FolderFile → Call
  ListIsTaken : Call
  NameIsDrawn : Place → Call
  -- an id, with its line feed
  IdIs : List ℕ → Call
  -- something has the folder's name
  FolderIsMade : Call
  BesideIsMade : Call
  FileIsMade : RunFile → (bytes : List ℕ) → Call
  -- every crash from now on leaves the names in it
  BesideIsSynced : Call
  HasRenamed : Call
  -- the folder of the name that was drawn is gone, unless it couldn't be removed
  HasRemoved : Call
  -- whether the lock was got
  Tried : Bool → Call
  HasUnlocked : Call
  -- a file of this name is there
  HasPut : RunFile → (bytes : List ℕ) → Call
  HasReplaced : RunFile → (bytes : List ℕ) → Call
  -- every crash from now on leaves the names in it
  FolderIsSynced : Call
  AboveIsSynced : Call
  -- It has failed: it may or may not have come about.
  Fell : Request → Call

-- what was requested in a call
abbrev pub request_of : Call → Request
request_of (IsThere there) = LookUp
request_of (IsFolder it) = AskFolder
request_of (IsOwn it) = AskOwner
request_of (DiskIsTaken place) = CheckDisk place
request_of (RecordIs bytes) = ReadRecord
request_of (HasId it) = ReadId
request_of (LenIs file len) = Measure file
request_of (FilesAre files) = ListFiles
request_of ListIsTaken = CheckList
request_of (NameIsDrawn place) = DrawName place
request_of (IdIs id) = DrawId
request_of FolderIsMade = MakeFolder
request_of BesideIsMade = MakeBeside
request_of (FileIsMade file bytes) = MakeFile file bytes
request_of BesideIsSynced = SyncBeside
request_of HasRenamed = Rename
request_of HasRemoved = RemoveBeside
request_of (Tried got) = TryLock
request_of HasUnlocked = Unlock
request_of (HasPut file bytes) = Put file bytes
request_of (HasReplaced file bytes) = Replace file bytes
request_of FolderIsSynced = SyncFolder
request_of AboveIsSynced = SyncAbove
request_of (Fell request) = request
