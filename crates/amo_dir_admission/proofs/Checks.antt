-- In each phase a door has seen what it must see before it makes something.
use Rattle.std.proofs.Common.{◌≡◌, inl, inr, ℕ, Bool, ◌&&◌, true, false, ◌==◌, List, [], ◌∷◌, Option, None, Some, refl, sym, ap, subst}
use Rattle.std.specs.Prelude.{if◌then◌else◌}
use Rattle.amo_dir_admission.specs.declared.halt.Refusal.TheVariants.{Empty}
use Rattle.amo_dir_admission.specs.declared.model.Asked.{Asked}
use Rattle.amo_dir_admission.specs.declared.model.Place.TheVariants as P
use Rattle.amo_dir_admission.specs.declared.model.Purpose.{Purpose}
use Rattle.amo_dir_admission.specs.declared.model.Purpose.TheVariants.{Make, Enter}
use Rattle.amo_dir_admission.specs.declared.model.RunFile.{RunFile}
use Rattle.amo_dir_admission.specs.declared.model.RunFile.TheVariants.{Round, Id, Forgotten}
use Rattle.amo_dir_admission.specs.declared.names.FolderFile.{FolderFile}
use Rattle.amo_dir_admission.specs.declared.version.Version.{Version}
use Rattle.amo_dir_admission.specs.declared.version.Version.TheVariants as V
use Rattle.amo_dir_admission.specs.Calls.{Request, LookUp, AskFolder, AskOwner, CheckDisk, ReadRecord, ReadId, Measure, ListFiles, CheckList, DrawName, DrawId, MakeFolder, MakeBeside, MakeFile, SyncBeside, Rename, RemoveBeside, TryLock, Unlock, Put, Replace, SyncFolder, SyncAbove}
use Rattle.amo_dir_admission.specs.Calls.{Call, IsThere, IsFolder, IsOwn, DiskIsTaken, RecordIs, HasId, LenIs, FilesAre, ListIsTaken, NameIsDrawn, IdIs, FolderIsMade, BesideIsMade, FileIsMade, BesideIsSynced, HasRenamed, HasRemoved, Tried, HasUnlocked, HasPut, HasReplaced, FolderIsSynced, AboveIsSynced, request_of}
use Rattle.amo_dir_admission.specs.Files.{first_bytes, has_byte}
use Rattle.amo_dir_admission.specs.Names.{first_refused}
use Rattle.amo_dir_admission.specs.Phase.{Phase, Begins, Found, Absent, Above, Makes, Beside, Fills, Finishes, Filled, Synced, Fails, Removed, Looks, Folder, Own, Taken, Dated, Checked, Idless, Bare, New, Recordless, Free, Listed, Named, Locks, Locked, Puts, Lacks, Blank, Kept, Signs, Signed, Made, Identified, Whole, OldRead, Seen, Entered, Done, Refuses, RefusesFile, Ended}
use Rattle.amo_dir_admission.specs.Protocol.{above_on, absent, absent_on, bare_if, bare_on, begins_on, beside_on, blank_on, checked_on, dated_on, entered_on, fails_on, filled_on, fills_on, finishes_on, folder_on, found, found_on, free_on, identified, identified_on, idless_on, kept_on, lacks_on, listed_on, locked_on, locks_on, looks_on, made_on, makes_on, named_on, new, new_on, old, own_on, puts_on, recordless_if, recordless_on, removed_on, signed_on, signs_on, synced_on, taken_if, taken_on, unidentified, whole_on, phase_after, Allows, AreAllowed, MayDate, MayFill, MayMake, MayPut, MaySee}
use Rattle.amo_dir_admission.specs.Rules.{Sight, SeesNothing, SeesAbove, SeesAboveList, SeesFolder, SeesOwner, SeesDisk, SeesOldRecord, SeesVersion, SeesRoom, SeesList, sight_after, sight_by_disk, sight_by_files, sight_by_id, sight_by_list, sight_by_owner, sight_by_record, sight_by_version, AreChecked, IsChecked}
use Rattle.amo_dir_admission.specs.Versions.{is_lost, version_of}

-- what was seen before files are made, without the lock or with it
abbrev pub before_lock : (locked : Bool) → Sight
before_lock false = SeesVersion
before_lock true = SeesList

-- what was seen
abbrev pub Sees : Phase → Sight → Type 0
Sees (Above into) s = s ≡ SeesAbove
Sees (Makes into) s = s ≡ SeesAboveList
Sees Beside s = s ≡ SeesAboveList
Sees (Fills left) s = s ≡ SeesAboveList
Sees (Finishes id) s = s ≡ SeesAboveList
Sees Filled s = s ≡ SeesAboveList
Sees Synced s = s ≡ SeesAboveList
Sees (Folder p) s = s ≡ SeesFolder
Sees (Own p) s = s ≡ SeesOwner
Sees (Taken p) s = s ≡ SeesDisk
Sees (Dated p) s = s ≡ SeesOldRecord
Sees (Checked p) s = s ≡ SeesVersion
Sees (New locked) s = s ≡ before_lock locked
Sees (Recordless locked) s = s ≡ before_lock locked
Sees Free s = s ≡ SeesRoom
Sees Listed s = s ≡ SeesList
Sees Named s = s ≡ SeesList
Sees (Locks tried) s = s ≡ SeesList
Sees Locked s = s ≡ SeesList
Sees (Puts left) s = s ≡ SeesList
Sees (Lacks f left) s = s ≡ SeesList
Sees (Blank f left) s = s ≡ SeesList
Sees Kept s = s ≡ SeesList
Sees (Signs id) s = s ≡ SeesList
Sees ph s = Unit {0}

found_seen : (named into : Bool) (s : Sight) → Sees (found named into) s
found_seen named true s = tt
found_seen named false s = tt

absent_seen : (into named : Bool) (s : Sight) → Sees (absent into named) s
absent_seen into true s = tt
absent_seen into false s = tt

begins_seen : (asked : Asked) (s : Sight) (c : Call) → Sees (begins_on asked c) (sight_after s c)
begins_seen asked s (IsThere true) = found_seen asked.is_named asked.into SeesNothing
begins_seen asked s (IsThere false) = absent_seen asked.into asked.is_named SeesNothing
begins_seen asked s c = tt

found_on_seen : (named : Bool) (s : Sight) (c : Call) → Sees (found_on named c) (sight_after s c)
found_on_seen named s (HasId true) = tt
found_on_seen named s (HasId false) = tt
found_on_seen named s c = tt

absent_on_seen : (into : Bool) (s : Sight) (c : Call) → request_of c ≡ CheckDisk P.Above → Sees (absent_on into c) (sight_after s c)
absent_on_seen into s (DiskIsTaken P.Above) may = refl
absent_on_seen into s (DiskIsTaken P.Run) may = absurd (cc)
absent_on_seen into s c may = tt

above_seen : (into : Bool) (s : Sight) (c : Call) → s ≡ SeesAbove → Sees (above_on into c) (sight_after s c)
above_seen into s ListIsTaken it = ap sight_by_list it
above_seen into s c it = tt

makes_seen : (into : Bool) (s : Sight) (c : Call) → s ≡ SeesAboveList → Sees (makes_on into c) (sight_after s c)
makes_seen true s FolderIsMade it = tt
makes_seen false s (NameIsDrawn place) it = it
makes_seen true s c it = tt
makes_seen false s c it = tt

beside_seen : (s : Sight) (c : Call) → s ≡ SeesAboveList → Sees (beside_on c) (sight_after s c)
beside_seen s BesideIsMade it = it
beside_seen s c it = tt

fills_seen : (left : List RunFile) (s : Sight) (c : Call) → s ≡ SeesAboveList → Sees (fills_on left c) (sight_after s c)
fills_seen (f ∷ left) s (FileIsMade file bytes) it = it
fills_seen [] s (IdIs id) it = it
fills_seen (f ∷ left) s c it = tt
fills_seen [] s c it = tt

finishes_seen : (s : Sight) (c : Call) → s ≡ SeesAboveList → Sees (finishes_on c) (sight_after s c)
finishes_seen s (FileIsMade file bytes) it = it
finishes_seen s c it = tt

filled_seen : (s : Sight) (c : Call) → s ≡ SeesAboveList → Sees (filled_on c) (sight_after s c)
filled_seen s BesideIsSynced it = it
filled_seen s c it = tt

synced_seen : (s : Sight) (c : Call) → Sees (synced_on c) (sight_after s c)
synced_seen s HasRenamed = tt
synced_seen s c = tt

fails_seen : (s : Sight) (c : Call) → Sees (fails_on c) (sight_after s c)
fails_seen s HasRemoved = tt
fails_seen s c = tt

removed_seen : (s : Sight) (c : Call) → Sees (removed_on c) (sight_after s c)
removed_seen s (IsThere true) = tt
removed_seen s (IsThere false) = tt
removed_seen s c = tt

looks_seen : (p : Purpose) (s : Sight) (c : Call) → Sees (looks_on p c) (sight_after s c)
looks_seen p s (IsFolder true) = refl
looks_seen p s (IsFolder false) = tt
looks_seen p s c = tt

folder_seen : (p : Purpose) (s : Sight) (c : Call) → s ≡ SeesFolder → Sees (folder_on p c) (sight_after s c)
folder_seen p s (IsOwn true) it = ap (λ (q : Sight). sight_by_owner q true) it
folder_seen p s (IsOwn false) it = tt
folder_seen p s c it = tt

own_seen : (p : Purpose) (s : Sight) (c : Call) → s ≡ SeesOwner → request_of c ≡ CheckDisk P.Run → Sees (own_on p c) (sight_after s c)
own_seen p s (DiskIsTaken P.Run) it may = ap (λ (q : Sight). sight_by_disk q P.Run) it
own_seen p s (DiskIsTaken P.Above) it may = absurd (cc)
own_seen p s c it may = tt

version_seen : (p : Purpose) (v : Version) → Sees (taken_if p v) (sight_by_version v)
version_seen p V.Fits = refl
version_seen p V.Old = refl
version_seen p V.Other = tt

record_seen : (p : Purpose) (bytes : Option (List ℕ)) (s : Sight) → s ≡ SeesDisk → Sees (taken_if p (version_of bytes)) (sight_by_record s bytes)
record_seen p bytes s it =
    subst (λ (q : Sight). Sees (taken_if p (version_of bytes)) q) (sym (ap (λ (q : Sight). sight_by_record q bytes) it)) (version_seen p (version_of bytes))

taken_seen : (p : Purpose) (s : Sight) (c : Call) → s ≡ SeesDisk → Sees (taken_on p c) (sight_after s c)
taken_seen p s (RecordIs bytes) it = record_seen p bytes s it
taken_seen p s (HasId id) it = tt
taken_seen p s c it = tt

dated_seen : (p : Purpose) (s : Sight) (c : Call) → s ≡ SeesOldRecord → Sees (dated_on p c) (sight_after s c)
dated_seen p s (HasId true) it = tt
dated_seen p s (HasId false) it = ap (λ (q : Sight). sight_by_id q false) it
dated_seen p s c it = tt

identified_seen : (p : Purpose) (s : Sight) → Sees (identified p) s
identified_seen (Make named) s = tt
identified_seen p s = tt

new_seen : (named : Bool) (s : Sight) → s ≡ SeesVersion → Sees (new named) s
new_seen true s it = tt
new_seen false s it = it

unidentified_seen : (p : Purpose) (s : Sight) → s ≡ SeesVersion → Sees (unidentified p) s
unidentified_seen (Make named) s it = new_seen named s it
unidentified_seen p s it = tt

checked_seen : (p : Purpose) (s : Sight) (c : Call) → s ≡ SeesVersion → Sees (checked_on p c) (sight_after s c)
checked_seen p s (HasId true) it = identified_seen p (sight_by_id s true)
checked_seen p s (HasId false) it = unidentified_seen p (sight_by_id s false) (ap (λ (q : Sight). sight_by_id q false) it)
checked_seen p s c it = tt

idless_seen : (s : Sight) (c : Call) → Sees (idless_on c) (sight_after s c)
idless_seen s (RecordIs bytes) = tt
idless_seen s c = tt

old_seen : (named : Bool) (s : Sight) → Sees (old named) s
old_seen true s = tt
old_seen false s = tt

lost_seen : (named lost : Bool) (s : Sight) → Sees (bare_if named lost) s
lost_seen named true s = tt
lost_seen named false s = old_seen named s

bare_seen : (named : Bool) (s : Sight) (c : Call) → Sees (bare_on named c) (sight_after s c)
bare_seen named s (RecordIs bytes) = lost_seen named (is_lost bytes) (sight_by_record s bytes)
bare_seen named s c = tt

none_seen : (locked : Bool) (s : Sight) → s ≡ before_lock locked → sight_by_record s None ≡ before_lock locked
none_seen false s it = ap (λ (q : Sight). sight_by_record q None) it
none_seen true s it = ap (λ (q : Sight). sight_by_record q None) it

new_on_seen : (locked : Bool) (s : Sight) (c : Call) → s ≡ before_lock locked → Sees (new_on locked c) (sight_after s c)
new_on_seen locked s (RecordIs None) it = none_seen locked s it
new_on_seen locked s (RecordIs (Some bytes)) it = tt
new_on_seen locked s c it = tt

room_seen : (locked : Bool) (file : Option FolderFile) (s : Sight) → s ≡ before_lock locked → Sees (recordless_if locked file) (sight_by_files s file)
room_seen false None s it = ap (λ (q : Sight). sight_by_files q None) it
room_seen true None s it = ap (λ (q : Sight). sight_by_files q None) it
room_seen locked (Some file) s it = tt

recordless_seen : (locked : Bool) (s : Sight) (c : Call) → s ≡ before_lock locked → Sees (recordless_on locked c) (sight_after s c)
recordless_seen locked s (FilesAre files) it = room_seen locked (first_refused files) s it
recordless_seen locked s c it = tt

free_seen : (s : Sight) (c : Call) → s ≡ SeesRoom → Sees (free_on c) (sight_after s c)
free_seen s ListIsTaken it = ap sight_by_list it
free_seen s c it = tt

listed_seen : (s : Sight) (c : Call) → s ≡ SeesList → Sees (listed_on c) (sight_after s c)
listed_seen s (NameIsDrawn place) it = it
listed_seen s c it = tt

named_seen : (s : Sight) (c : Call) → s ≡ SeesList → Sees (named_on c) (sight_after s c)
named_seen s (HasPut file bytes) it = it
named_seen s c it = tt

locks_seen : (s : Sight) (c : Call) → s ≡ SeesList → Sees (locks_on c) (sight_after s c)
locks_seen s (Tried true) it = it
locks_seen s (Tried false) it = it
locks_seen s c it = tt

locked_seen : (s : Sight) (c : Call) → s ≡ SeesList → Sees (locked_on c) (sight_after s c)
locked_seen s (HasId true) it = tt
locked_seen s (HasId false) it = ap (λ (q : Sight). sight_by_id q false) it
locked_seen s c it = tt

byte_seen : (f : RunFile) (left : List RunFile) (b : Bool) (s : Sight) → s ≡ SeesList → Sees (if b then Blank f left else Puts left) s
byte_seen f left true s it = it
byte_seen f left false s it = it

puts_seen : (left : List RunFile) (s : Sight) (c : Call) → s ≡ SeesList → Sees (puts_on left c) (sight_after s c)
puts_seen (f ∷ left) s (LenIs file None) it = it
puts_seen (f ∷ left) s (LenIs file (Some len)) it = byte_seen f left (len == 0) s it
puts_seen [] s FolderIsSynced it = it
puts_seen (f ∷ left) s c it = tt
puts_seen [] s c it = tt

lacks_seen : (left : List RunFile) (s : Sight) (c : Call) → s ≡ SeesList → Sees (lacks_on left c) (sight_after s c)
lacks_seen left s (HasPut file bytes) it = it
lacks_seen left s c it = tt

blank_seen : (left : List RunFile) (s : Sight) (c : Call) → s ≡ SeesList → Sees (blank_on left c) (sight_after s c)
blank_seen left s (HasReplaced file bytes) it = it
blank_seen left s c it = tt

kept_seen : (s : Sight) (c : Call) → s ≡ SeesList → Sees (kept_on c) (sight_after s c)
kept_seen s (IdIs id) it = it
kept_seen s c it = tt

signs_seen : (s : Sight) (c : Call) → Sees (signs_on c) (sight_after s c)
signs_seen s (HasPut file bytes) = tt
signs_seen s c = tt

signed_seen : (s : Sight) (c : Call) → Sees (signed_on c) (sight_after s c)
signed_seen s FolderIsSynced = tt
signed_seen s c = tt

made_seen : (s : Sight) (c : Call) → Sees (made_on c) (sight_after s c)
made_seen s HasUnlocked = tt
made_seen s c = tt

given_up_seen : (s : Sight) (c : Call) → Sees (identified_on c) (sight_after s c)
given_up_seen s (LenIs file None) = tt
given_up_seen s (LenIs file (Some len)) = tt
given_up_seen s c = tt

empty_seen : (p : Purpose) (f : RunFile) (left : List RunFile) (b : Bool) (s : Sight) → Sees (if b then Refuses (Empty f) else Whole p left) s
empty_seen p f left true s = tt
empty_seen p f left false s = tt

whole_seen : (p : Purpose) (left : List RunFile) (s : Sight) (c : Call) → Sees (whole_on p left c) (sight_after s c)
whole_seen p (f ∷ left) s (LenIs file None) = tt
whole_seen p (f ∷ left) s (LenIs file (Some len)) = empty_seen p f left (has_byte f && (len == 0)) s
whole_seen p [] s AboveIsSynced = tt
whole_seen p (f ∷ left) s c = tt
whole_seen p [] s c = tt

entered_seen : (s : Sight) (c : Call) → Sees (entered_on c) (sight_after s c)
entered_seen s ListIsTaken = tt
entered_seen s c = tt

-- what was seen after one call more
pub step_seen : (ph : Phase) (s : Sight) (c : Call) → Sees ph s → Allows ph (request_of c) → Sees (phase_after ph c) (sight_after s c)
step_seen (Begins asked) s c it may = begins_seen asked s c
step_seen (Found named) s c it may = found_on_seen named s c
step_seen (Absent into) s c it may = absent_on_seen into s c may
step_seen (Above into) s c it may = above_seen into s c it
step_seen (Makes into) s c it may = makes_seen into s c it
step_seen Beside s c it may = beside_seen s c it
step_seen (Fills left) s c it may = fills_seen left s c it
step_seen (Finishes id) s c it may = finishes_seen s c it
step_seen Filled s c it may = filled_seen s c it
step_seen Synced s c it may = synced_seen s c
step_seen Fails s c it may = fails_seen s c
step_seen Removed s c it may = removed_seen s c
step_seen (Looks p) s c it may = looks_seen p s c
step_seen (Folder p) s c it may = folder_seen p s c it
step_seen (Own p) s c it may = own_seen p s c it may
step_seen (Taken p) s c it may = taken_seen p s c it
step_seen (Dated p) s c it may = dated_seen p s c it
step_seen (Checked p) s c it may = checked_seen p s c it
step_seen Idless s c it may = idless_seen s c
step_seen (Bare named) s c it may = bare_seen named s c
step_seen (New locked) s c it may = new_on_seen locked s c it
step_seen (Recordless locked) s c it may = recordless_seen locked s c it
step_seen Free s c it may = free_seen s c it
step_seen Listed s c it may = listed_seen s c it
step_seen Named s c it may = named_seen s c it
step_seen (Locks tried) s c it may = locks_seen s c it
step_seen Locked s c it may = locked_seen s c it
step_seen (Puts left) s c it may = puts_seen left s c it
step_seen (Lacks f left) s c it may = lacks_seen left s c it
step_seen (Blank f left) s c it may = blank_seen left s c it
step_seen Kept s c it may = kept_seen s c it
step_seen (Signs id) s c it may = signs_seen s c
step_seen Signed s c it may = signed_seen s c
step_seen Made s c it may = made_seen s c
step_seen Identified s c it may = given_up_seen s c
step_seen (Whole p left) s c it may = whole_seen p left s c
step_seen OldRead s c it may = tt
step_seen Seen s c it may = tt
step_seen Entered s c it may = entered_seen s c
step_seen Done s c it may = tt
step_seen (Refuses why) s c it may = tt
step_seen (RefusesFile name) s c it may = tt
step_seen Ended s c it may = tt

at : (s : Sight) (r x : Request) → r ≡ x → IsChecked s x → IsChecked s r
at s r x it rule = subst (λ (q : Request). IsChecked s q) (sym it) rule

makes_checked : (into : Bool) (s : Sight) (r : Request) → s ≡ SeesAboveList → MayMake into r → IsChecked s r
makes_checked true s r it may = at s r MakeFolder may it
makes_checked false s r it may = at s r (DrawName P.Above) may tt

fills_checked : (left : List RunFile) (s : Sight) (r : Request) → s ≡ SeesAboveList → MayFill left r → IsChecked s r
fills_checked [] s r it may = at s r DrawId may tt
fills_checked (f ∷ left) s r it may = at s r (MakeFile f (first_bytes f)) may it

date_checked : (p : Purpose) (s : Sight) (r : Request) → MayDate p r → IsChecked s r
date_checked p s r (inl it) = at s r ReadRecord it tt
date_checked p s r (inr it) = at s r ReadId it.1 tt

puts_checked : (left : List RunFile) (s : Sight) (r : Request) → MayPut left r → IsChecked s r
puts_checked [] s r it = at s r SyncFolder it tt
puts_checked (f ∷ left) s r it = at s r (Measure f) it tt

see_checked : (p : Purpose) (left : List RunFile) (s : Sight) (r : Request) → MaySee p left r → IsChecked s r
see_checked p (f ∷ left) s r it = at s r (Measure f) it tt
see_checked Enter [] s r it = at s r SyncAbove it tt
see_checked p [] s r it = absurd it

-- each call that is allowed comes after its checks
call_checked : (ph : Phase) (s : Sight) (r : Request) → Sees ph s → Allows ph r → IsChecked s r
call_checked (Begins asked) s r it may = at s r LookUp may tt
call_checked (Found named) s r it may = at s r ReadId may tt
call_checked (Absent into) s r it may = at s r (CheckDisk P.Above) may tt
call_checked (Above into) s r it may = at s r CheckList may tt
call_checked (Makes into) s r it may = makes_checked into s r it may
call_checked Beside s r it may = at s r MakeBeside may it
call_checked (Fills left) s r it may = fills_checked left s r it may
call_checked (Finishes id) s r it may = at s r (MakeFile Id id) may it
call_checked Filled s r it may = at s r SyncBeside may tt
call_checked Synced s r it may = at s r Rename may it
call_checked Fails s r it may = at s r RemoveBeside may tt
call_checked Removed s r it may = at s r LookUp may tt
call_checked (Looks p) s r it may = at s r AskFolder may tt
call_checked (Folder p) s r it may = at s r AskOwner may tt
call_checked (Own p) s r it may = at s r (CheckDisk P.Run) may tt
call_checked (Taken p) s r it may = date_checked p s r may
call_checked (Dated p) s r it may = at s r ReadId may tt
call_checked (Checked p) s r it may = at s r ReadId may tt
call_checked Idless s r it may = at s r ReadRecord may tt
call_checked (Bare named) s r it may = at s r ReadRecord may tt
call_checked (New locked) s r it may = at s r ReadRecord may tt
call_checked (Recordless locked) s r it may = at s r ListFiles may tt
call_checked Free s r it may = at s r CheckList may tt
call_checked Listed s r it may = at s r (DrawName P.Run) may tt
call_checked Named s r it may = at s r (Put Round (first_bytes Round)) may it
call_checked (Locks tried) s r it may = at s r TryLock may tt
call_checked Locked s r it may = at s r ReadId may tt
call_checked (Puts left) s r it may = puts_checked left s r may
call_checked (Lacks f left) s r it may = at s r (Put f (first_bytes f)) may it
call_checked (Blank f left) s r it may = at s r (Replace f (first_bytes f)) may it
call_checked Kept s r it may = at s r DrawId may tt
call_checked (Signs id) s r it may = at s r (Put Id id) may it
call_checked Signed s r it may = at s r SyncFolder may tt
call_checked Made s r it may = at s r Unlock may tt
call_checked Identified s r it may = at s r (Measure Forgotten) may tt
call_checked (Whole p left) s r it may = see_checked p left s r may
call_checked OldRead s r it may = absurd may
call_checked Seen s r it may = absurd may
call_checked Entered s r it may = at s r CheckList may tt
call_checked Done s r it may = absurd may
call_checked (Refuses why) s r it may = absurd may
call_checked (RefusesFile name) s r it may = absurd may
call_checked Ended s r it may = absurd may

all_checked : (ph : Phase) (s : Sight) (cs : List Call) → Sees ph s → AreAllowed ph cs → AreChecked s cs
all_checked ph s [] it all = tt
all_checked ph s (c ∷ cs) it all = (call_checked ph s (request_of c) it all.0, all_checked (phase_after ph c) (sight_after s c) cs (step_seen ph s c it all.0) all.1)

-- so a door makes nothing before
pub door_checks_before : (asked : Asked) (cs : List Call) → AreAllowed (Begins asked) cs → AreChecked SeesNothing cs
door_checks_before asked cs all = all_checked (Begins asked) SeesNothing cs tt all
