-- Which calls the phases of a door allow, and which phase follows.
use Rattle.std.specs.Prelude.{◌≡◌, ◌⊎◌, ℕ, Bool, true, false, ◌&&◌, ◌==◌, List, [], ◌∷◌, Option, Some, None, if◌then◌else◌, string_bytes}
use Rattle.amo_dir_admission.specs.declared.halt.Refusal.TheVariants as R
use Rattle.amo_dir_admission.specs.declared.model.Asked.{Asked}
use Rattle.amo_dir_admission.specs.declared.model.Place.TheVariants as P
use Rattle.amo_dir_admission.specs.declared.model.Purpose.{Purpose}
use Rattle.amo_dir_admission.specs.declared.model.Purpose.TheVariants.{Make, Enter, Write, Read, Look}
use Rattle.amo_dir_admission.specs.declared.model.RunFile.{RunFile}
use Rattle.amo_dir_admission.specs.declared.model.RunFile.TheVariants.{Round, Id, Forgotten}
use Rattle.amo_dir_admission.specs.declared.names.FolderFile.{FolderFile}
use Rattle.amo_dir_admission.specs.declared.version.Version.{Version}
use Rattle.amo_dir_admission.specs.declared.version.Version.TheVariants as V
use Rattle.amo_dir_admission.specs.Calls.{Request, LookUp, AskFolder, AskOwner, CheckDisk, ReadRecord, ReadId, Measure, ListFiles, CheckList, DrawName, DrawId, MakeFolder, MakeBeside, MakeFile, SyncBeside, Rename, RemoveBeside, TryLock, Unlock, Put, Replace, SyncFolder, SyncAbove}
use Rattle.amo_dir_admission.specs.Calls.{Call, IsThere, IsFolder, IsOwn, DiskIsTaken, RecordIs, HasId, LenIs, FilesAre, ListIsTaken, NameIsDrawn, IdIs, FolderIsMade, BesideIsMade, FileIsMade, BesideIsSynced, HasRenamed, HasRemoved, Tried, HasUnlocked, HasPut, HasReplaced, FolderIsSynced, AboveIsSynced, request_of}
use Rattle.amo_dir_admission.specs.Files.{files_after, first_bytes, first_files, has_byte}
use Rattle.amo_dir_admission.specs.Names.{first_refused}
use Rattle.amo_dir_admission.specs.Phase.{Phase, Begins, Found, Absent, Above, Makes, Beside, Fills, Finishes, Filled, Synced, Fails, Removed, Looks, Folder, Own, Taken, Dated, Checked, Idless, Bare, New, Recordless, Free, Listed, Named, Locks, Locked, Puts, Lacks, Blank, Kept, Signs, Signed, Made, Identified, Whole, OldRead, Seen, Entered, Done, Refuses, RefusesFile, Ended}
use Rattle.amo_dir_admission.specs.Versions.{is_lost, lost_id, no_id, version_of}

-- The phase of one that has the folder's name, by whether a new run is to be made.
abbrev pub found : (is_named into : Bool) → Phase
found is_named true = Found is_named
found is_named false = Looks (Make is_named)

-- The phase if the folder isn't there, by whether the id of a run is named.
abbrev pub absent : (into is_named : Bool) → Phase
absent into true = Refuses R.NoRun
absent into false = Absent into

-- The phase once the folder's name was looked up.
abbrev pub begins_if : Asked → (there : Bool) → Phase
begins_if asked true = found asked.is_named asked.into
begins_if asked false = absent asked.into asked.is_named

-- The phase after the call that looks up the folder's name.
abbrev pub begins_on : Asked → Call → Phase
begins_on asked (IsThere there) = begins_if asked there
begins_on asked c = Ended

-- The phase once it is seen whether a folder in which a new run is to be made has an id.
abbrev pub found_if : (is_named : Bool) → (it : Bool) → Phase
found_if is_named true = Refuses R.HasId
found_if is_named false = Looks (Make is_named)

-- The phase after the call that looks for the id there.
abbrev pub found_on : (is_named : Bool) → Call → Phase
found_on is_named (HasId it) = found_if is_named it
found_on is_named c = Ended

-- The phase after the call that checks the file system of the folder above.
abbrev pub absent_on : (into : Bool) → Call → Phase
absent_on into (DiskIsTaken place) = Above into
absent_on into c = Ended

-- The phase after the call that checks the list before the folder is made.
abbrev pub above_on : (into : Bool) → Call → Phase
above_on into ListIsTaken = Makes into
above_on into c = Ended

-- The phase after the call that makes the folder without files, or draws a name for a whole one.
abbrev pub makes_on : (into : Bool) → Call → Phase
makes_on true FolderIsMade = Looks (Make false)
makes_on false (NameIsDrawn place) = Beside
makes_on into c = Ended

-- The phase after the call that makes a folder beside.
abbrev pub beside_on : Call → Phase
beside_on BesideIsMade = Fills first_files
beside_on c = Fails

-- The phase after the call that makes a file there, or draws the id once all others are made.
abbrev pub fills_on : (left : List RunFile) → Call → Phase
fills_on (f ∷ left) (FileIsMade file bytes) = Fills left
fills_on [] (IdIs id) = Finishes id
fills_on left c = Fails

-- The phase after the call that makes the id there.
abbrev pub finishes_on : Call → Phase
finishes_on (FileIsMade file bytes) = Filled
finishes_on c = Fails

-- The phase after the call that syncs that folder.
abbrev pub filled_on : Call → Phase
filled_on BesideIsSynced = Synced
filled_on c = Fails

-- The phase after the call that renames it.
abbrev pub synced_on : Call → Phase
synced_on HasRenamed = Looks (Make false)
synced_on c = Fails

-- The phase after the call that removes what was made.
abbrev pub fails_on : Call → Phase
fails_on HasRemoved = Removed
fails_on c = Ended

-- The phase once it is seen whether another process has made the folder meanwhile.
abbrev pub removed_if : (there : Bool) → Phase
removed_if true = Looks (Make false)
removed_if false = Ended

-- The phase after the call that looks up the folder's name then.
abbrev pub removed_on : Call → Phase
removed_on (IsThere there) = removed_if there
removed_on c = Ended

-- The phase once it is seen whether this is a folder.
abbrev pub looks_if : Purpose → (it : Bool) → Phase
looks_if p true = Folder p
looks_if p false = Refuses R.NoFolder

-- The phase after the call that asks whether it is a folder.
abbrev pub looks_on : Purpose → Call → Phase
looks_on p (IsFolder it) = looks_if p it
looks_on p c = Ended

-- The phase once it is seen whose the folder is.
abbrev pub folder_if : Purpose → (it : Bool) → Phase
folder_if p true = Own p
folder_if p false = Refuses R.Foreign

-- The phase after the call that asks whose the folder is.
abbrev pub folder_on : Purpose → Call → Phase
folder_on p (IsOwn it) = folder_if p it
folder_on p c = Ended

-- The phase after the call that checks the folder's file system.
abbrev pub own_on : Purpose → Call → Phase
own_on p (DiskIsTaken place) = Taken p
own_on p c = Ended

-- The phase once the version is known.
abbrev pub taken_if : Purpose → Version → Phase
taken_if p V.Fits = Checked p
taken_if p V.Old = Dated p
taken_if p V.Other = Refuses R.Version

-- The phase after the call that reads the record, or looks for the id of a folder that is shown.
abbrev pub taken_on : Purpose → Call → Phase
taken_on p (RecordIs bytes) = taken_if p (version_of bytes)
taken_on p (HasId it) = Seen
taken_on p c = Ended

-- The phase once it is seen whether a folder of version 0.1.0 has an id, which it can't have.
abbrev pub dated_if : Purpose → (it : Bool) → Phase
dated_if p true = Refuses R.Version
dated_if p false = Checked p

-- The phase after the call that looks for the id there.
abbrev pub dated_on : Purpose → Call → Phase
dated_on p (HasId it) = dated_if p it
dated_on p c = Ended

-- The phase of a folder without an id in which a run may be made, by whether an id is named.
abbrev pub new : (is_named : Bool) → Phase
new true = Refuses R.NoId
new false = New false

-- The phase of a checked folder with an id.
abbrev pub identified : Purpose → Phase
identified (Make is_named) = Looks Enter
identified Enter = Identified
identified Write = Whole Write first_files
identified (Read is_named) = Whole (Read is_named) first_files
identified Look = Seen

-- The phase of a checked folder without an id.
abbrev pub unidentified : Purpose → Phase
unidentified (Make is_named) = new is_named
unidentified Enter = Idless
unidentified Write = Idless
unidentified (Read is_named) = Bare is_named
unidentified Look = Seen

-- The phase once it is seen whether a checked folder has an id.
abbrev pub checked_if : Purpose → (it : Bool) → Phase
checked_if p true = identified p
checked_if p false = unidentified p

-- The phase after the call that looks for the id of a checked folder.
abbrev pub checked_on : Purpose → Call → Phase
checked_on p (HasId it) = checked_if p it
checked_on p c = Ended

-- The phase after the call that reads the record of a folder that should have an id.
abbrev pub idless_on : Call → Phase
idless_on (RecordIs bytes) = Refuses (no_id bytes)
idless_on c = Ended

-- The phase of a folder without an id that is to be read, and isn't that of a lost one.
abbrev pub old : (is_named : Bool) → Phase
old true = Refuses R.NoId
old false = OldRead

-- The phase of a folder without an id that is to be read, by whether the record is that of a lost id.
abbrev pub bare_if : (is_named lost : Bool) → Phase
bare_if is_named true = Refuses R.LostId
bare_if is_named false = old is_named

-- The phase after the call that reads the record of a folder that is to be read.
abbrev pub bare_on : (is_named : Bool) → Call → Phase
bare_on is_named (RecordIs bytes) = bare_if is_named (is_lost bytes)
bare_on is_named c = Ended

-- The phase once the record was looked for in a folder in which a run is to be made.
abbrev pub new_if : (locked : Bool) → Option (List ℕ) → Phase
new_if locked None = Recordless locked
new_if locked (Some bytes) = Refuses (lost_id bytes)

-- The phase after the call that reads the record there.
abbrev pub new_on : (locked : Bool) → Call → Phase
new_on locked (RecordIs bytes) = new_if locked bytes
new_on locked c = Ended

-- The phase of a folder in which a run can be made.
abbrev pub cleared : (locked : Bool) → Phase
cleared false = Free
cleared true = Puts (files_after Round)

-- The phase once the files in the folder are known, by the first that can't be in that of a new run.
abbrev pub recordless_if : (locked : Bool) → Option FolderFile → Phase
recordless_if locked None = cleared locked
recordless_if locked (Some file) = RefusesFile (string_bytes file.name)

-- The phase after the call that lists the files.
abbrev pub recordless_on : (locked : Bool) → Call → Phase
recordless_on locked (FilesAre files) = recordless_if locked (first_refused files)
recordless_on locked c = Ended

-- The phase after the call that checks the list before files are made.
abbrev pub free_on : Call → Phase
free_on ListIsTaken = Listed
free_on c = Ended

-- The phase after the call that draws a name.
abbrev pub listed_on : Call → Phase
listed_on (NameIsDrawn place) = Named
listed_on c = Ended

-- The phase after the call that makes `lock.round`.
abbrev pub named_on : Call → Phase
named_on (HasPut file bytes) = Locks false
named_on c = Ended

-- The phase once the lock of the round was tried.
abbrev pub locks_if : (got : Bool) → Phase
locks_if true = Locked
locks_if false = Locks true

-- The phase after the call that tries it.
abbrev pub locks_on : Call → Phase
locks_on (Tried got) = locks_if got
locks_on c = Ended

-- The phase once the id was looked for under the lock.
abbrev pub locked_if : (it : Bool) → Phase
locked_if true = Made
locked_if false = New true

-- The phase after the call that looks for it.
abbrev pub locked_on : Call → Phase
locked_on (HasId it) = locked_if it
locked_on c = Ended

-- The phase once a file was looked for, by how many bytes it has.
abbrev pub puts_if : RunFile → (left : List RunFile) → Option ℕ → Phase
puts_if f left None = Lacks f left
puts_if f left (Some len) = if len == 0 then Blank f left else Puts left

-- The phase after the call that looks for a file, or syncs the folder once all are there.
abbrev pub puts_on : (left : List RunFile) → Call → Phase
puts_on (f ∷ left) (LenIs file len) = puts_if f left len
puts_on [] FolderIsSynced = Kept
puts_on left c = Ended

-- The phase after the call that makes a missing file.
abbrev pub lacks_on : (left : List RunFile) → Call → Phase
lacks_on left (HasPut file bytes) = Puts left
lacks_on left c = Ended

-- The phase after the call that replaces a file without bytes.
abbrev pub blank_on : (left : List RunFile) → Call → Phase
blank_on left (HasReplaced file bytes) = Puts left
blank_on left c = Ended

-- The phase after the call that draws the id.
abbrev pub kept_on : Call → Phase
kept_on (IdIs id) = Signs id
kept_on c = Ended

-- The phase after the call that makes the id.
abbrev pub signs_on : Call → Phase
signs_on (HasPut file bytes) = Signed
signs_on c = Ended

-- The phase after the call that syncs the folder then.
abbrev pub signed_on : Call → Phase
signed_on FolderIsSynced = Made
signed_on c = Ended

-- The phase after the call that unlocks `lock.round`.
abbrev pub made_on : Call → Phase
made_on HasUnlocked = Looks Enter
made_on c = Ended

-- The phase once it is seen whether the run was given up.
abbrev pub identified_if : Option ℕ → Phase
identified_if None = Whole Enter first_files
identified_if (Some len) = Refuses R.Forgotten

-- The phase after the call that looks for `forgotten`.
abbrev pub identified_on : Call → Phase
identified_on (LenIs file len) = identified_if len
identified_on c = Ended

-- The phase once a file that was made with the id was looked for.
abbrev pub whole_if : Purpose → RunFile → (left : List RunFile) → Option ℕ → Phase
whole_if p f left None = Refuses (R.Missing f)
whole_if p f left (Some len) = if has_byte f && (len == 0) then Refuses (R.Empty f) else Whole p left

-- The phase after the call that looks for such a file, or syncs the folder above once all are there.
abbrev pub whole_on : Purpose → (left : List RunFile) → Call → Phase
whole_on p (f ∷ left) (LenIs file len) = whole_if p f left len
whole_on p [] AboveIsSynced = Entered
whole_on p left c = Ended

-- The phase after the call that checks the list in a folder that was entered.
abbrev pub entered_on : Call → Phase
entered_on ListIsTaken = Done
entered_on c = Ended

-- The phase after a call.
abbrev pub phase_after : Phase → Call → Phase
phase_after (Begins asked) c = begins_on asked c
phase_after (Found is_named) c = found_on is_named c
phase_after (Absent into) c = absent_on into c
phase_after (Above into) c = above_on into c
phase_after (Makes into) c = makes_on into c
phase_after Beside c = beside_on c
phase_after (Fills left) c = fills_on left c
phase_after (Finishes id) c = finishes_on c
phase_after Filled c = filled_on c
phase_after Synced c = synced_on c
phase_after Fails c = fails_on c
phase_after Removed c = removed_on c
phase_after (Looks p) c = looks_on p c
phase_after (Folder p) c = folder_on p c
phase_after (Own p) c = own_on p c
phase_after (Taken p) c = taken_on p c
phase_after (Dated p) c = dated_on p c
phase_after (Checked p) c = checked_on p c
phase_after Idless c = idless_on c
phase_after (Bare is_named) c = bare_on is_named c
phase_after (New locked) c = new_on locked c
phase_after (Recordless locked) c = recordless_on locked c
phase_after Free c = free_on c
phase_after Listed c = listed_on c
phase_after Named c = named_on c
phase_after (Locks tried) c = locks_on c
phase_after Locked c = locked_on c
phase_after (Puts left) c = puts_on left c
phase_after (Lacks f left) c = lacks_on left c
phase_after (Blank f left) c = blank_on left c
phase_after Kept c = kept_on c
phase_after (Signs id) c = signs_on c
phase_after Signed c = signed_on c
phase_after Made c = made_on c
phase_after Identified c = identified_on c
phase_after (Whole p left) c = whole_on p left c
phase_after OldRead c = Ended
phase_after Seen c = Ended
phase_after Entered c = entered_on c
phase_after Done c = Ended
phase_after (Refuses why) c = Ended
phase_after (RefusesFile name) c = Ended
phase_after Ended c = Ended

-- It may make the folder without files, or draw a name in the folder above for a whole one.
abbrev pub MayMake : (into : Bool) → Request → Type 0
MayMake true r = r ≡ MakeFolder
MayMake false r = r ≡ DrawName P.Above

-- It may make the next file. Once none is left it may draw the id.
abbrev pub MayFill : (left : List RunFile) → Request → Type 0
MayFill [] r = r ≡ DrawId
MayFill (f ∷ left) r = r ≡ MakeFile f (first_bytes f)

-- It may read the record. A folder that is only shown may be without one, so its id is looked for at once.
abbrev pub MayDate : Purpose → Request → Type 0
MayDate p r = (r ≡ ReadRecord) ⊎ ((p ≡ Look) × (r ≡ ReadId))

-- It may look for the next file. Once none is left it may sync the folder.
abbrev pub MayPut : (left : List RunFile) → Request → Type 0
MayPut [] r = r ≡ SyncFolder
MayPut (f ∷ left) r = r ≡ Measure f

-- A door that lets a worker in may sync the folder above. Else it calls nothing more.
abbrev pub MayEnter : Purpose → Request → Type 0
MayEnter Enter r = r ≡ SyncAbove
MayEnter p r = ⊥

-- It may look for the next file.
abbrev pub MaySee : Purpose → (left : List RunFile) → Request → Type 0
MaySee p [] r = MayEnter p r
MaySee p (f ∷ left) r = r ≡ Measure f

-- The calls that a phase allows.
abbrev pub Allows : Phase → Request → Type 0
Allows (Begins asked) r = r ≡ LookUp
Allows (Found is_named) r = r ≡ ReadId
Allows (Absent into) r = r ≡ CheckDisk P.Above
Allows (Above into) r = r ≡ CheckList
Allows (Makes into) r = MayMake into r
Allows Beside r = r ≡ MakeBeside
Allows (Fills left) r = MayFill left r
Allows (Finishes id) r = r ≡ MakeFile Id id
Allows Filled r = r ≡ SyncBeside
Allows Synced r = r ≡ Rename
Allows Fails r = r ≡ RemoveBeside
Allows Removed r = r ≡ LookUp
Allows (Looks p) r = r ≡ AskFolder
Allows (Folder p) r = r ≡ AskOwner
Allows (Own p) r = r ≡ CheckDisk P.Run
Allows (Taken p) r = MayDate p r
Allows (Dated p) r = r ≡ ReadId
Allows (Checked p) r = r ≡ ReadId
Allows Idless r = r ≡ ReadRecord
Allows (Bare is_named) r = r ≡ ReadRecord
Allows (New locked) r = r ≡ ReadRecord
Allows (Recordless locked) r = r ≡ ListFiles
Allows Free r = r ≡ CheckList
Allows Listed r = r ≡ DrawName P.Run
Allows Named r = r ≡ Put Round (first_bytes Round)
Allows (Locks tried) r = r ≡ TryLock
Allows Locked r = r ≡ ReadId
Allows (Puts left) r = MayPut left r
Allows (Lacks f left) r = r ≡ Put f (first_bytes f)
Allows (Blank f left) r = r ≡ Replace f (first_bytes f)
Allows Kept r = r ≡ DrawId
Allows (Signs id) r = r ≡ Put Id id
Allows Signed r = r ≡ SyncFolder
Allows Made r = r ≡ Unlock
Allows Identified r = r ≡ Measure Forgotten
Allows (Whole p left) r = MaySee p left r
Allows OldRead r = ⊥
Allows Seen r = ⊥
Allows Entered r = r ≡ CheckList
Allows Done r = ⊥
Allows (Refuses why) r = ⊥
Allows (RefusesFile name) r = ⊥
Allows Ended r = ⊥

-- It is in a phase that allows this.
abbrev pub MayCall : (Phase → Type 0) → Request → Type 0
MayCall stands r = (ph : Phase) × stands ph × Allows ph r

-- A call that a phase allows leads to the phase after it.
abbrev pub Moves : (before after : Phase → Type 0) → Call → Type 0
Moves before after c = (ph : Phase) → before ph → Allows ph (request_of c) → after (phase_after ph c)

-- It is in a phase: so each of its calls was allowed.
abbrev pub Lives : (Phase → Type 0) → Type 0
Lives stands = (ph : Phase) × stands ph

-- Each of these calls was allowed by the phase before it, the first of which is this one.
abbrev pub AreAllowed : Phase → List Call → Type 0
AreAllowed ph [] = Unit {0}
AreAllowed ph (c ∷ cs) = Allows ph (request_of c) × AreAllowed (phase_after ph c) cs

-- The phase after all of them.
abbrev pub phase_after_all : Phase → List Call → Phase
phase_after_all ph [] = ph
phase_after_all ph (c ∷ cs) = phase_after_all (phase_after ph c) cs

-- A process that was in the phase `first` has since made these calls, each of which was allowed,
-- and is in this phase.
abbrev pub Stands : (first : Phase) → List Call → Phase → Type 0
Stands first cs ph = AreAllowed first cs × (phase_after_all first cs ≡ ph)

-- The phase in which a folder may be read, by whether it has an id.
abbrev pub read_as : (is_named has_id : Bool) → Phase
read_as is_named true = Whole (Read is_named) []
read_as is_named false = OldRead
