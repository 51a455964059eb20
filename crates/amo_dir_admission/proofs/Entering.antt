-- A door that has done what was asked for has entered the folder.
use Rattle.std.proofs.Common.{◌≡◌, ℕ, Bool, ◌&&◌, true, false, ◌==◌, List, [], ◌∷◌, ◌++◌, Option, None, Some, refl, sym, ap, subst, ◌∙◌, append_assoc, append-nil}
use Rattle.std.specs.Prelude.{if◌then◌else◌}
use Rattle.amo_dir_admission.specs.declared.halt.Refusal.TheVariants.{Empty}
use Rattle.amo_dir_admission.specs.declared.model.Asked.{Asked}
use Rattle.amo_dir_admission.specs.declared.model.Purpose.{Purpose}
use Rattle.amo_dir_admission.specs.declared.model.Purpose.TheVariants.{Make, Enter, Write, Read, Look}
use Rattle.amo_dir_admission.specs.declared.model.RunFile.{RunFile}
use Rattle.amo_dir_admission.specs.declared.model.RunFile.TheVariants.{Forgotten}
use Rattle.amo_dir_admission.specs.declared.names.FolderFile.{FolderFile}
use Rattle.amo_dir_admission.specs.declared.version.Version.{Version}
use Rattle.amo_dir_admission.specs.declared.version.Version.TheVariants as V
use Rattle.amo_dir_admission.specs.Calls.{Measure}
use Rattle.amo_dir_admission.specs.Calls.{Call, IsThere, IsFolder, IsOwn, DiskIsTaken, RecordIs, HasId, LenIs, FilesAre, ListIsTaken, NameIsDrawn, IdIs, FolderIsMade, BesideIsMade, FileIsMade, BesideIsSynced, HasRenamed, HasRemoved, Tried, HasUnlocked, HasPut, HasReplaced, FolderIsSynced, AboveIsSynced, request_of}
use Rattle.amo_dir_admission.specs.Files.{first_files, has_byte}
use Rattle.amo_dir_admission.specs.Names.{first_refused}
use Rattle.amo_dir_admission.specs.Phase.{Phase, Begins, Found, Absent, Above, Makes, Beside, Fills, Finishes, Filled, Synced, Fails, Removed, Looks, Folder, Own, Taken, Dated, Checked, Idless, Bare, New, Recordless, Free, Listed, Named, Locks, Locked, Puts, Lacks, Blank, Kept, Signs, Signed, Made, Identified, Whole, OldRead, Seen, Entered, Done, Refuses, RefusesFile, Ended}
use Rattle.amo_dir_admission.specs.Protocol.{above_on, absent, absent_on, bare_if, bare_on, begins_on, beside_on, blank_on, checked_on, dated_on, entered_on, fails_on, filled_on, fills_on, finishes_on, folder_on, found, found_on, free_on, identified, identified_on, idless_on, kept_on, lacks_on, listed_on, locked_on, locks_on, looks_on, made_on, makes_on, named_on, new, new_on, old, own_on, puts_on, recordless_if, recordless_on, removed_on, signed_on, signs_on, synced_on, taken_if, taken_on, unidentified, whole_if, whole_on, phase_after, phase_after_all, Allows, AreAllowed, MaySee}
use Rattle.amo_dir_admission.specs.Rules.{Sight, SeesNothing, SeesVersion, Entry, Outside, HasRun, Finds, Syncs, Passes, entry_after, entry_after_all, entry_by_file, entry_by_id, entry_by_len, entry_by_list, entry_by_sync, entry_if, sight_after}
use Rattle.amo_dir_admission.specs.Versions.{is_lost, version_of}
use Rattle.amo_dir_admission.proofs.Checks.{Sees, step_seen}

-- a phase in which the folder isn't being entered
abbrev free : Phase → Bool
free Identified = false
free (Whole Enter left) = false
free Entered = false
free Done = false
free ph = true

-- how far a door has come
abbrev Came : Phase → Entry → Type 0
Came Identified e = e ≡ HasRun
Came (Whole Enter left) e = (files : List RunFile) × (e ≡ Finds files) × (files ++ left ≡ first_files)
Came Entered e = e ≡ Syncs first_files
Came Done e = e ≡ Passes first_files
Came ph e = Unit {0}

came_free : (ph : Phase) (e : Entry) → free ph ≡ true → Came ph e
came_free Identified e is = absurd (cc)
came_free (Whole Enter left) e is = absurd (cc)
came_free Entered e is = absurd (cc)
came_free Done e is = absurd (cc)
came_free ph e is = tt

found_free : (named into : Bool) → free (found named into) ≡ true
found_free named true = refl
found_free named false = refl

absent_free : (into named : Bool) → free (absent into named) ≡ true
absent_free into true = refl
absent_free into false = refl

begins_free : (asked : Asked) (c : Call) → free (begins_on asked c) ≡ true
begins_free asked (IsThere true) = found_free asked.is_named asked.into
begins_free asked (IsThere false) = absent_free asked.into asked.is_named
begins_free asked c = refl

found_on_free : (named : Bool) (c : Call) → free (found_on named c) ≡ true
found_on_free named (HasId true) = refl
found_on_free named (HasId false) = refl
found_on_free named c = refl

absent_on_free : (into : Bool) (c : Call) → free (absent_on into c) ≡ true
absent_on_free into (DiskIsTaken place) = refl
absent_on_free into c = refl

above_free : (into : Bool) (c : Call) → free (above_on into c) ≡ true
above_free into ListIsTaken = refl
above_free into c = refl

synced_free : (c : Call) → free (synced_on c) ≡ true
synced_free HasRenamed = refl
synced_free c = refl

fails_free : (c : Call) → free (fails_on c) ≡ true
fails_free HasRemoved = refl
fails_free c = refl

removed_free : (c : Call) → free (removed_on c) ≡ true
removed_free (IsThere true) = refl
removed_free (IsThere false) = refl
removed_free c = refl

looks_free : (p : Purpose) (c : Call) → free (looks_on p c) ≡ true
looks_free p (IsFolder true) = refl
looks_free p (IsFolder false) = refl
looks_free p c = refl

folder_free : (p : Purpose) (c : Call) → free (folder_on p c) ≡ true
folder_free p (IsOwn true) = refl
folder_free p (IsOwn false) = refl
folder_free p c = refl

own_free : (p : Purpose) (c : Call) → free (own_on p c) ≡ true
own_free p (DiskIsTaken place) = refl
own_free p c = refl

version_free : (p : Purpose) (v : Version) → free (taken_if p v) ≡ true
version_free p V.Fits = refl
version_free p V.Old = refl
version_free p V.Other = refl

taken_free : (p : Purpose) (c : Call) → free (taken_on p c) ≡ true
taken_free p (RecordIs bytes) = version_free p (version_of bytes)
taken_free p (HasId it) = refl
taken_free p c = refl

dated_free : (p : Purpose) (c : Call) → free (dated_on p c) ≡ true
dated_free p (HasId true) = refl
dated_free p (HasId false) = refl
dated_free p c = refl

new_free : (named : Bool) → free (new named) ≡ true
new_free true = refl
new_free false = refl

unidentified_free : (p : Purpose) → free (unidentified p) ≡ true
unidentified_free (Make named) = new_free named
unidentified_free p = refl

idless_free : (c : Call) → free (idless_on c) ≡ true
idless_free (RecordIs bytes) = refl
idless_free c = refl

old_free : (named : Bool) → free (old named) ≡ true
old_free true = refl
old_free false = refl

lost_free : (named lost : Bool) → free (bare_if named lost) ≡ true
lost_free named true = refl
lost_free named false = old_free named

bare_free : (named : Bool) (c : Call) → free (bare_on named c) ≡ true
bare_free named (RecordIs bytes) = lost_free named (is_lost bytes)
bare_free named c = refl

new_on_free : (locked : Bool) (c : Call) → free (new_on locked c) ≡ true
new_on_free locked (RecordIs None) = refl
new_on_free locked (RecordIs (Some bytes)) = refl
new_on_free locked c = refl

refused_free : (locked : Bool) (file : Option FolderFile) → free (recordless_if locked file) ≡ true
refused_free false None = refl
refused_free true None = refl
refused_free locked (Some file) = refl

recordless_free : (locked : Bool) (c : Call) → free (recordless_on locked c) ≡ true
recordless_free locked (FilesAre files) = refused_free locked (first_refused files)
recordless_free locked c = refl

free_free : (c : Call) → free (free_on c) ≡ true
free_free ListIsTaken = refl
free_free c = refl

signs_free : (c : Call) → free (signs_on c) ≡ true
signs_free (HasPut file bytes) = refl
signs_free c = refl

signed_free : (c : Call) → free (signed_on c) ≡ true
signed_free FolderIsSynced = refl
signed_free c = refl

made_free : (c : Call) → free (made_on c) ≡ true
made_free HasUnlocked = refl
made_free c = refl

same_measured : (f g : RunFile) → Measure f ≡ Measure g → f ≡ g
same_measured f g it = cc

makes_free : (into : Bool) (c : Call) → free (makes_on into c) ≡ true
makes_free true FolderIsMade = refl
makes_free false (NameIsDrawn place) = refl
makes_free true c = refl
makes_free false c = refl

beside_free : (c : Call) → free (beside_on c) ≡ true
beside_free BesideIsMade = refl
beside_free c = refl

fills_free : (left : List RunFile) (c : Call) → free (fills_on left c) ≡ true
fills_free (f ∷ left) (FileIsMade file bytes) = refl
fills_free [] (IdIs id) = refl
fills_free (f ∷ left) c = refl
fills_free [] c = refl

finishes_free : (c : Call) → free (finishes_on c) ≡ true
finishes_free (FileIsMade file bytes) = refl
finishes_free c = refl

filled_free : (c : Call) → free (filled_on c) ≡ true
filled_free BesideIsSynced = refl
filled_free c = refl

listed_free : (c : Call) → free (listed_on c) ≡ true
listed_free (NameIsDrawn place) = refl
listed_free c = refl

named_free : (c : Call) → free (named_on c) ≡ true
named_free (HasPut file bytes) = refl
named_free c = refl

locks_free : (c : Call) → free (locks_on c) ≡ true
locks_free (Tried true) = refl
locks_free (Tried false) = refl
locks_free c = refl

locked_free : (c : Call) → free (locked_on c) ≡ true
locked_free (HasId true) = refl
locked_free (HasId false) = refl
locked_free c = refl

blank_byte_free : (f : RunFile) (left : List RunFile) (b : Bool) → free (if b then Blank f left else Puts left) ≡ true
blank_byte_free f left true = refl
blank_byte_free f left false = refl

puts_free : (left : List RunFile) (c : Call) → free (puts_on left c) ≡ true
puts_free (f ∷ left) (LenIs file None) = refl
puts_free (f ∷ left) (LenIs file (Some len)) = blank_byte_free f left (len == 0)
puts_free [] FolderIsSynced = refl
puts_free (f ∷ left) c = refl
puts_free [] c = refl

lacks_free : (left : List RunFile) (c : Call) → free (lacks_on left c) ≡ true
lacks_free left (HasPut file bytes) = refl
lacks_free left c = refl

blank_free : (left : List RunFile) (c : Call) → free (blank_on left c) ≡ true
blank_free left (HasReplaced file bytes) = refl
blank_free left c = refl

kept_free : (c : Call) → free (kept_on c) ≡ true
kept_free (IdIs id) = refl
kept_free c = refl

identified_came : (p : Purpose) (s : Sight) → s ≡ SeesVersion → Came (identified p) (entry_by_id s true)
identified_came (Make named) s it = tt
identified_came Enter s it = ap (λ (q : Sight). entry_by_id q true) it
identified_came Write s it = tt
identified_came (Read named) s it = tt
identified_came Look s it = tt

checked_came : (p : Purpose) (s : Sight) (e : Entry) (c : Call) → s ≡ SeesVersion → Came (checked_on p c) (entry_after s e c)
checked_came p s e (HasId true) it = identified_came p s it
checked_came p s e (HasId false) it = came_free (unidentified p) (entry_by_id s false) (unidentified_free p)
checked_came p s e c it = tt

kept_came : (s : Sight) (e : Entry) (c : Call) → e ≡ HasRun → request_of c ≡ Measure Forgotten → Came (identified_on c) (entry_after s e c)
kept_came s e (LenIs file None) it may =
    let same : file ≡ Forgotten = same_measured file Forgotten may in
    ([], ap (λ (q : Entry). entry_by_len q file None) it ∙ ap (λ (f : RunFile). entry_by_file f None) same, refl)
kept_came s e (LenIs file (Some len)) it may = tt
kept_came s e c it may = tt

byte_came : (files left : List RunFile) (f : RunFile) (b : Bool) → files ++ f ∷ left ≡ first_files → Came (if b then Refuses (Empty f) else Whole Enter left) (entry_if files f b)
byte_came files left f true it = tt
byte_came files left f false it = (files ++ f ∷ [], refl, append_assoc files (f ∷ []) left ∙ it)

found_came : (f file : RunFile) (left files : List RunFile) (e : Entry) (len : ℕ) → file ≡ f → e ≡ Finds files → files ++ f ∷ left ≡ first_files
    → Came (whole_if Enter f left (Some len)) (entry_by_len e file (Some len))
found_came f file left files e len same it all =
    let found : entry_by_len e file (Some len) ≡ entry_if files f (has_byte f && (len == 0)) =
    ap (λ (q : Entry). entry_by_len q file (Some len)) it ∙ ap (λ (x : RunFile). entry_if files x (has_byte x && (len == 0))) same in
    subst (λ (q : Entry). Came (whole_if Enter f left (Some len)) q) (sym found) (byte_came files left f (has_byte f && (len == 0)) all)

other_byte_free : (p : Purpose) (f : RunFile) (left : List RunFile) (b : Bool) → free (Whole p left) ≡ true → free (if b then Refuses (Empty f) else Whole p left) ≡ true
other_byte_free p f left true is = refl
other_byte_free p f left false is = is

whole_came : (p : Purpose) (left : List RunFile) (s : Sight) (e : Entry) (c : Call) → Came (Whole p left) e → MaySee p left (request_of c) → Came (whole_on p left c) (entry_after s e c)
whole_came Enter (f ∷ left) s e (LenIs file None) it may = tt
whole_came Enter (f ∷ left) s e (LenIs file (Some len)) it may = found_came f file left it.0 e len (same_measured file f may) it.1 it.2
whole_came Enter [] s e AboveIsSynced it may = ap entry_by_sync it.1 ∙ ap Syncs (sym (append-nil it.0) ∙ it.2)
whole_came Enter (f ∷ left) s e c it may = tt
whole_came Enter [] s e c it may = tt
whole_came p (f ∷ left) s e (LenIs file None) it may = tt
whole_came (Make named) (f ∷ left) s e (LenIs file (Some len)) it may = came_free _ (entry_by_len e file (Some len)) (other_byte_free (Make named) f left (has_byte f && (len == 0)) refl)
whole_came Write (f ∷ left) s e (LenIs file (Some len)) it may = came_free _ (entry_by_len e file (Some len)) (other_byte_free Write f left (has_byte f && (len == 0)) refl)
whole_came (Read named) (f ∷ left) s e (LenIs file (Some len)) it may = came_free _ (entry_by_len e file (Some len)) (other_byte_free (Read named) f left (has_byte f && (len == 0)) refl)
whole_came Look (f ∷ left) s e (LenIs file (Some len)) it may = came_free _ (entry_by_len e file (Some len)) (other_byte_free Look f left (has_byte f && (len == 0)) refl)
whole_came p [] s e c it may = absurd may
whole_came p (f ∷ left) s e c it may = tt

entered_came : (s : Sight) (e : Entry) (c : Call) → e ≡ Syncs first_files → Came (entered_on c) (entry_after s e c)
entered_came s e ListIsTaken it = ap entry_by_list it
entered_came s e c it = tt

-- how far it has come after one call more
step_came : (ph : Phase) (s : Sight) (e : Entry) (c : Call) → Sees ph s → Came ph e → Allows ph (request_of c) → Came (phase_after ph c) (entry_after s e c)
step_came (Begins asked) s e c sees it may = came_free (begins_on asked c) (entry_after s e c) (begins_free asked c)
step_came (Found named) s e c sees it may = came_free (found_on named c) (entry_after s e c) (found_on_free named c)
step_came (Absent into) s e c sees it may = came_free (absent_on into c) (entry_after s e c) (absent_on_free into c)
step_came (Above into) s e c sees it may = came_free (above_on into c) (entry_after s e c) (above_free into c)
step_came (Makes into) s e c sees it may = came_free (makes_on into c) (entry_after s e c) (makes_free into c)
step_came Beside s e c sees it may = came_free (beside_on c) (entry_after s e c) (beside_free c)
step_came (Fills left) s e c sees it may = came_free (fills_on left c) (entry_after s e c) (fills_free left c)
step_came (Finishes id) s e c sees it may = came_free (finishes_on c) (entry_after s e c) (finishes_free c)
step_came Filled s e c sees it may = came_free (filled_on c) (entry_after s e c) (filled_free c)
step_came Synced s e c sees it may = came_free (synced_on c) (entry_after s e c) (synced_free c)
step_came Fails s e c sees it may = came_free (fails_on c) (entry_after s e c) (fails_free c)
step_came Removed s e c sees it may = came_free (removed_on c) (entry_after s e c) (removed_free c)
step_came (Looks p) s e c sees it may = came_free (looks_on p c) (entry_after s e c) (looks_free p c)
step_came (Folder p) s e c sees it may = came_free (folder_on p c) (entry_after s e c) (folder_free p c)
step_came (Own p) s e c sees it may = came_free (own_on p c) (entry_after s e c) (own_free p c)
step_came (Taken p) s e c sees it may = came_free (taken_on p c) (entry_after s e c) (taken_free p c)
step_came (Dated p) s e c sees it may = came_free (dated_on p c) (entry_after s e c) (dated_free p c)
step_came Idless s e c sees it may = came_free (idless_on c) (entry_after s e c) (idless_free c)
step_came (Bare named) s e c sees it may = came_free (bare_on named c) (entry_after s e c) (bare_free named c)
step_came (New locked) s e c sees it may = came_free (new_on locked c) (entry_after s e c) (new_on_free locked c)
step_came (Recordless locked) s e c sees it may = came_free (recordless_on locked c) (entry_after s e c) (recordless_free locked c)
step_came Free s e c sees it may = came_free (free_on c) (entry_after s e c) (free_free c)
step_came Listed s e c sees it may = came_free (listed_on c) (entry_after s e c) (listed_free c)
step_came Named s e c sees it may = came_free (named_on c) (entry_after s e c) (named_free c)
step_came (Locks tried) s e c sees it may = came_free (locks_on c) (entry_after s e c) (locks_free c)
step_came Locked s e c sees it may = came_free (locked_on c) (entry_after s e c) (locked_free c)
step_came (Puts left) s e c sees it may = came_free (puts_on left c) (entry_after s e c) (puts_free left c)
step_came (Lacks f left) s e c sees it may = came_free (lacks_on left c) (entry_after s e c) (lacks_free left c)
step_came (Blank f left) s e c sees it may = came_free (blank_on left c) (entry_after s e c) (blank_free left c)
step_came Kept s e c sees it may = came_free (kept_on c) (entry_after s e c) (kept_free c)
step_came (Signs id) s e c sees it may = came_free (signs_on c) (entry_after s e c) (signs_free c)
step_came Signed s e c sees it may = came_free (signed_on c) (entry_after s e c) (signed_free c)
step_came Made s e c sees it may = came_free (made_on c) (entry_after s e c) (made_free c)
step_came (Checked p) s e c sees it may = checked_came p s e c sees
step_came Identified s e c sees it may = kept_came s e c it may
step_came (Whole p left) s e c sees it may = whole_came p left s e c it may
step_came Entered s e c sees it may = entered_came s e c it
step_came OldRead s e c sees it may = tt
step_came Seen s e c sees it may = tt
step_came Done s e c sees it may = absurd may
step_came (Refuses why) s e c sees it may = tt
step_came (RefusesFile name) s e c sees it may = tt
step_came Ended s e c sees it may = tt

came_all : (ph : Phase) (s : Sight) (e : Entry) (cs : List Call) → Sees ph s → Came ph e → AreAllowed ph cs → Came (phase_after_all ph cs) (entry_after_all s e cs)
came_all ph s e [] sees it all = it
came_all ph s e (c ∷ cs) sees it all =
    came_all (phase_after ph c) (sight_after s c) (entry_after s e c) cs (step_seen ph s c sees all.0) (step_came ph s e c sees it all.0) all.1

-- so it has entered the folder
pub door_has_entered : (asked : Asked) (cs : List Call) → AreAllowed (Begins asked) cs → phase_after_all (Begins asked) cs ≡ Done → entry_after_all SeesNothing Outside cs ≡ Passes first_files
door_has_entered asked cs all is =
    subst (λ (ph : Phase). Came ph (entry_after_all SeesNothing Outside cs)) is (came_all (Begins asked) SeesNothing Outside cs tt tt all)
