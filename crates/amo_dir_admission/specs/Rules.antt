-- Rules that the calls of a door keep. They speak of calls alone, and of no phase.
use Rattle.std.specs.Prelude.{◌≡◌, ℕ, Bool, true, false, ◌&&◌, ◌==◌, List, [], ◌∷◌, ◌++◌, Option, Some, None}
use Rattle.amo_dir_admission.specs.declared.model.RunFile.{RunFile}
use Rattle.amo_dir_admission.specs.declared.model.RunFile.TheVariants.{Round, Id, Forgotten}
use Rattle.amo_dir_admission.specs.declared.names.FolderFile.{FolderFile}
use Rattle.amo_dir_admission.specs.declared.model.Place.{Place}
use Rattle.amo_dir_admission.specs.declared.model.Place.TheVariants as P
use Rattle.amo_dir_admission.specs.declared.version.Version.{Version}
use Rattle.amo_dir_admission.specs.declared.version.Version.TheVariants as V
use Rattle.amo_dir_admission.specs.Calls.{Request, MakeFolder, MakeBeside, MakeFile, Rename, RemoveBeside, Put, Replace}
use Rattle.amo_dir_admission.specs.Calls.{Call, IsThere, IsFolder, IsOwn, DiskIsTaken, RecordIs, HasId, LenIs, FilesAre, ListIsTaken, NameIsDrawn, IdIs, FileIsMade, AboveIsSynced, BesideIsSynced, Tried, HasUnlocked, HasPut, HasReplaced, FolderIsSynced, request_of}
use Rattle.amo_dir_admission.specs.Files.{first_files, has_byte}
use Rattle.amo_dir_admission.specs.Names.{first_refused}
use Rattle.amo_dir_admission.specs.Versions.{version_of}

-- Whether a call makes, replaces, renames or removes something.
abbrev pub makes : Request → Bool
makes MakeFolder = true
makes MakeBeside = true
makes (MakeFile file bytes) = true
makes Rename = true
makes RemoveBeside = true
makes (Put file bytes) = true
makes (Replace file bytes) = true
makes r = false

-- None of these calls does.
abbrev pub MakeNothing : List Call → Type 0
MakeNothing [] = Unit {0}
MakeNothing (c ∷ cs) = (makes (request_of c) ≡ false) × MakeNothing cs

-- A process's knowledge since it has tried the lock of the round.
pub data Guard : Type 0 where
  NoLock : Guard
  -- It has the lock.
  HasLock : Guard
  -- It has the lock, and the folder has no id.
  SeesNoId : Guard
  -- It has the lock, the folder has no id, and then no file by which no new run can be there.
  SeesNoFile : Guard

-- The facts that calls have shown.
pub record Facts : Type 0 where
  pub guard : Guard
  -- The files that were made or found with a byte, in this order, since a name was drawn.
  pub files : List RunFile
  -- The file that the last call has found without bytes.
  pub blank : Option RunFile
  -- Whether the folder was synced by the last call, or by the one before the id was drawn.
  pub synced : Bool

-- Once the lock was tried.
abbrev pub guard_if : (got : Bool) → Guard
guard_if true = HasLock
guard_if false = NoLock

-- Once the id was looked for.
abbrev pub guard_by_id : Guard → (it : Bool) → Guard
guard_by_id HasLock false = SeesNoId
guard_by_id g it = g

-- Once the files in the folder were listed, by the first by which no new run can be there.
abbrev pub guard_by_files : Guard → Option FolderFile → Guard
guard_by_files SeesNoId None = SeesNoFile
guard_by_files g file = g

-- A process's knowledge under the lock after a call.
abbrev pub guard_after : Guard → Call → Guard
guard_after g (Tried got) = guard_if got
guard_after g HasUnlocked = NoLock
guard_after g (HasId it) = guard_by_id g it
guard_after g (FilesAre files) = guard_by_files g (first_refused files)
guard_after g c = g

-- The files after this one was looked for, by whether it has no byte.
abbrev pub files_if : List RunFile → RunFile → (is_blank : Bool) → List RunFile
files_if files file true = files
files_if files file false = files ++ file ∷ []

-- The files after this one was looked for.
abbrev pub files_by_len : List RunFile → RunFile → Option ℕ → List RunFile
files_by_len files file None = files
files_by_len files file (Some len) = files_if files file (len == 0)

-- The files after a call.
abbrev pub files_after_call : List RunFile → Call → List RunFile
files_after_call files (NameIsDrawn place) = []
files_after_call files (LenIs file len) = files_by_len files file len
files_after_call files (FileIsMade file bytes) = files ++ file ∷ []
files_after_call files (HasPut file bytes) = files ++ file ∷ []
files_after_call files (HasReplaced file bytes) = files ++ file ∷ []
files_after_call files c = files

-- The file without bytes, by whether it has none.
abbrev pub blank_if : RunFile → (is_blank : Bool) → Option RunFile
blank_if file true = Some file
blank_if file false = None

-- The file that a look has found without bytes.
abbrev pub blank_by_len : RunFile → Option ℕ → Option RunFile
blank_by_len file None = None
blank_by_len file (Some len) = blank_if file (len == 0)

-- The file that a call has found without bytes.
abbrev pub blank_after : Call → Option RunFile
blank_after (LenIs file len) = blank_by_len file len
blank_after c = None

-- Whether the folder is synced after a call.
abbrev pub synced_after : (synced : Bool) → Call → Bool
synced_after synced FolderIsSynced = true
synced_after synced BesideIsSynced = true
synced_after synced (IdIs id) = synced
synced_after synced c = false

-- The facts after a call.
abbrev pub facts_after : Facts → Call → Facts
facts_after k c = record {
  guard = guard_after k.guard c;
  files = files_after_call k.files c;
  blank = blank_after c;
  synced = synced_after k.synced c;
}

-- The facts before any call.
abbrev pub no_facts : Facts
no_facts = record { guard = NoLock; files = []; blank = None; synced = false }

-- The rule by which a file is made in a folder that is there: under the lock, after a second look. `lock.round` may come
-- before. The id comes after all other files and a sync.
abbrev pub MayPutFile : Facts → RunFile → Type 0
MayPutFile k Round = Unit {0}
MayPutFile k Id = (k.guard ≡ SeesNoFile) × (k.files ≡ first_files) × (k.synced ≡ true)
MayPutFile k file = k.guard ≡ SeesNoFile

-- The rules of a call, by what is known before it. A file is replaced under the lock, and only if it has no byte. A folder
-- is renamed after all its files were made, the id last, and then it was synced.
abbrev pub KeepsRules : Facts → Request → Type 0
KeepsRules k (Put file bytes) = MayPutFile k file
KeepsRules k (Replace file bytes) = (k.guard ≡ SeesNoFile) × (k.blank ≡ Some file)
KeepsRules k Rename = (k.files ≡ first_files ++ Id ∷ []) × (k.synced ≡ true)
KeepsRules k r = Unit {0}

-- Each of these calls keeps them.
abbrev pub KeepRules : Facts → List Call → Type 0
KeepRules k [] = Unit {0}
KeepRules k (c ∷ cs) = KeepsRules k (request_of c) × KeepRules (facts_after k c) cs

-- A door's knowledge of the folder that is there or of the folder above, gained step by step.
pub data Sight : Type 0 where
  SeesNothing : Sight
  -- The folder above is on a file system that is taken.
  SeesAbove : Sight
  -- Then the list can be a run's.
  SeesAboveList : Sight
  -- It is a folder, and no link.
  SeesFolder : Sight
  -- Then it is this user's.
  SeesOwner : Sight
  -- Then it is on a file system that is taken.
  SeesDisk : Sight
  -- Then its record is of version 0.1.0.
  SeesOldRecord : Sight
  -- Then its version fits: it has no record, one of this version, or one of version 0.1.0 and no id.
  SeesVersion : Sight
  -- Then it has no file by which no new run can be there.
  SeesRoom : Sight
  -- Then the list can be a run's.
  SeesList : Sight

-- Once it was asked whether it is a folder.
abbrev pub sight_by_folder : (it : Bool) → Sight
sight_by_folder true = SeesFolder
sight_by_folder false = SeesNothing

-- Once it was asked whose the folder is.
abbrev pub sight_by_owner : Sight → (it : Bool) → Sight
sight_by_owner SeesFolder true = SeesOwner
sight_by_owner s it = SeesNothing

-- Once a file system is taken.
abbrev pub sight_by_disk : Sight → Place → Sight
sight_by_disk s P.Above = SeesAbove
sight_by_disk SeesOwner P.Run = SeesDisk
sight_by_disk s P.Run = SeesNothing

-- Once the version is known.
abbrev pub sight_by_version : Version → Sight
sight_by_version V.Fits = SeesVersion
sight_by_version V.Old = SeesOldRecord
sight_by_version V.Other = SeesNothing

-- Once the record was read. After the version is known, any record counts.
abbrev pub sight_by_record : Sight → Option (List ℕ) → Sight
sight_by_record SeesDisk bytes = sight_by_version (version_of bytes)
sight_by_record s None = s
sight_by_record s (Some bytes) = SeesNothing

-- Once the id was looked for.
abbrev pub sight_by_id : Sight → (it : Bool) → Sight
sight_by_id SeesOldRecord true = SeesNothing
sight_by_id SeesOldRecord false = SeesVersion
sight_by_id s it = s

-- Once the files in the folder were listed, by the first by which no new run can be there.
abbrev pub sight_by_files : Sight → Option FolderFile → Sight
sight_by_files SeesVersion None = SeesRoom
sight_by_files s None = s
sight_by_files s (Some file) = SeesNothing

-- Once the list was checked.
abbrev pub sight_by_list : Sight → Sight
sight_by_list SeesAbove = SeesAboveList
sight_by_list SeesRoom = SeesList
sight_by_list s = s

-- A door's knowledge of the folder after a call.
abbrev pub sight_after : Sight → Call → Sight
sight_after s (IsThere it) = SeesNothing
sight_after s (IsFolder it) = sight_by_folder it
sight_after s (IsOwn it) = sight_by_owner s it
sight_after s (DiskIsTaken place) = sight_by_disk s place
sight_after s (RecordIs bytes) = sight_by_record s bytes
sight_after s (HasId it) = sight_by_id s it
sight_after s (FilesAre files) = sight_by_files s (first_refused files)
sight_after s ListIsTaken = sight_by_list s
sight_after s c = s

-- A folder is made only after the file system above and the list were checked. A file is made in a folder that is there only
-- after that folder and the list were checked.
abbrev pub IsChecked : Sight → Request → Type 0
IsChecked s MakeFolder = s ≡ SeesAboveList
IsChecked s MakeBeside = s ≡ SeesAboveList
IsChecked s (MakeFile file bytes) = s ≡ SeesAboveList
IsChecked s Rename = s ≡ SeesAboveList
IsChecked s (Put file bytes) = s ≡ SeesList
IsChecked s (Replace file bytes) = s ≡ SeesList
IsChecked s r = Unit {0}

-- Each of these calls comes after such checks.
abbrev pub AreChecked : Sight → List Call → Type 0
AreChecked s [] = Unit {0}
AreChecked s (c ∷ cs) = IsChecked s (request_of c) × AreChecked (sight_after s c) cs

-- How far a door has come in a folder that has an id.
pub data Entry : Type 0 where
  Outside : Entry
  -- The folder was checked, and its id was found after that.
  HasRun : Entry
  -- Then it has seen that the run wasn't given up, and has found these files, each with its byte.
  Finds : (files : List RunFile) → Entry
  -- Then it has synced the folder above.
  Syncs : (files : List RunFile) → Entry
  -- Then it has checked the list.
  Passes : (files : List RunFile) → Entry

-- Once the id was looked for.
abbrev pub entry_by_id : Sight → (it : Bool) → Entry
entry_by_id SeesVersion true = HasRun
entry_by_id s it = Outside

-- Once a file was looked for, by whether it has lost its byte.
abbrev pub entry_if : (files : List RunFile) → RunFile → (is_lost : Bool) → Entry
entry_if files file true = Outside
entry_if files file false = Finds (files ++ file ∷ [])

-- Once `forgotten` or another file was looked for.
abbrev pub entry_by_file : RunFile → Option ℕ → Entry
entry_by_file Forgotten None = Finds []
entry_by_file file len = Outside

-- Once a file was looked for.
abbrev pub entry_by_len : Entry → RunFile → Option ℕ → Entry
entry_by_len HasRun file len = entry_by_file file len
entry_by_len (Finds files) file (Some len) = entry_if files file (has_byte file && (len == 0))
entry_by_len e file len = Outside

-- Once the folder above was synced.
abbrev pub entry_by_sync : Entry → Entry
entry_by_sync (Finds files) = Syncs files
entry_by_sync e = Outside

-- Once the list was checked.
abbrev pub entry_by_list : Entry → Entry
entry_by_list (Syncs files) = Passes files
entry_by_list e = Outside

-- How far it has come after a call.
abbrev pub entry_after : Sight → Entry → Call → Entry
entry_after s e (HasId it) = entry_by_id s it
entry_after s e (LenIs file len) = entry_by_len e file len
entry_after s e AboveIsSynced = entry_by_sync e
entry_after s e ListIsTaken = entry_by_list e
entry_after s e c = Outside

-- How far it has come after all of these calls.
abbrev pub entry_after_all : Sight → Entry → List Call → Entry
entry_after_all s e [] = e
entry_after_all s e (c ∷ cs) = entry_after_all (sight_after s c) (entry_after s e c) cs
