-- In each phase the calls before it show some facts, and from these the rules follow.
use Rattle.std.proofs.Common.{◌≡◌, inl, inr, ℕ, Bool, ◌&&◌, true, false, ◌==◌, List, [], ◌∷◌, ◌++◌, Option, None, Some, refl, sym, ap, subst, ◌∙◌, append_assoc, append-nil}
use Rattle.std.specs.Prelude.{if◌then◌else◌}
use Rattle.amo_dir_admission.specs.declared.halt.Refusal.TheVariants.{Empty}
use Rattle.amo_dir_admission.specs.declared.model.Asked.{Asked}
use Rattle.amo_dir_admission.specs.declared.model.Place.TheVariants as P
use Rattle.amo_dir_admission.specs.declared.model.Purpose.{Purpose}
use Rattle.amo_dir_admission.specs.declared.model.Purpose.TheVariants.{Make, Enter}
use Rattle.amo_dir_admission.specs.declared.model.RunFile.{RunFile}
use Rattle.amo_dir_admission.specs.declared.model.RunFile.TheVariants.{Round, Id, Forgotten}
use Rattle.amo_dir_admission.specs.declared.names.FolderFile.{FolderFile}
use Rattle.amo_dir_admission.specs.declared.version.Version.{Version}
use Rattle.amo_dir_admission.specs.declared.version.Version.TheVariants as V
use Rattle.amo_dir_admission.specs.Calls.{Request, LookUp, AskFolder, AskOwner, CheckDisk, ReadRecord, ReadId, Measure, ListFiles, CheckList, DrawName, DrawId, MakeFolder, MakeBeside, MakeFile, SyncBeside, Rename, RemoveBeside, TryLock, Unlock, Put, Replace, SyncFolder, SyncAbove}
use Rattle.amo_dir_admission.specs.Calls.{Call, IsThere, IsFolder, IsOwn, DiskIsTaken, RecordIs, HasId, LenIs, FilesAre, ListIsTaken, NameIsDrawn, IdIs, FolderIsMade, BesideIsMade, FileIsMade, BesideIsSynced, HasRenamed, HasRemoved, Tried, HasUnlocked, HasPut, HasReplaced, FolderIsSynced, AboveIsSynced, request_of}
use Rattle.amo_dir_admission.specs.Files.{files_after, first_bytes, first_files, has_byte}
use Rattle.amo_dir_admission.specs.Names.{first_refused}
use Rattle.amo_dir_admission.specs.Phase.{Phase, Begins, Found, Absent, Above, Makes, Beside, Fills, Finishes, Filled, Synced, Fails, Removed, Looks, Folder, Own, Taken, Dated, Checked, Idless, Bare, New, Recordless, Free, Listed, Named, Locks, Locked, Puts, Lacks, Blank, Kept, Signs, Signed, Made, Identified, Whole, OldRead, Seen, Entered, Done, Refuses, RefusesFile, Ended}
use Rattle.amo_dir_admission.specs.Protocol.{above_on, absent, absent_on, bare_if, bare_on, begins_on, beside_on, blank_on, checked_on, dated_on, entered_on, fails_on, filled_on, fills_on, finishes_on, folder_on, found, found_on, free_on, identified, identified_on, idless_on, kept_on, lacks_on, listed_on, locked_on, locks_on, looks_on, made_on, makes_on, named_on, new, new_on, old, own_on, puts_if, puts_on, recordless_if, recordless_on, removed_on, signed_on, signs_on, synced_on, taken_if, taken_on, unidentified, whole_on, phase_after, Allows, AreAllowed, MayDate, MayFill, MayMake, MayPut, MaySee}
use Rattle.amo_dir_admission.specs.Rules.{Facts, HasLock, SeesNoId, SeesNoFile, blank_if, facts_after, files_if, guard_by_files, guard_by_id, no_facts, KeepRules, KeepsRules, MayPutFile}
use Rattle.amo_dir_admission.specs.Versions.{is_lost, version_of}

-- a file that is made before the id
abbrev is_made : RunFile → Bool
is_made Id = false
is_made Forgotten = false
is_made f = true

abbrev all_made : List RunFile → Bool
all_made [] = true
all_made (f ∷ fs) = is_made f && all_made fs

-- what the calls before it show
abbrev Knows : Phase → Facts → Type 0
Knows Beside k = k.files ≡ []
Knows (Fills left) k = k.files ++ left ≡ first_files
Knows (Finishes id) k = k.files ≡ first_files
Knows Filled k = k.files ≡ first_files ++ Id ∷ []
Knows Synced k = (k.files ≡ first_files ++ Id ∷ []) × (k.synced ≡ true)
Knows Named k = k.files ≡ []
Knows (Locks tried) k = k.files ≡ Round ∷ []
Knows Locked k = (k.guard ≡ HasLock) × (k.files ≡ Round ∷ [])
Knows (New true) k = (k.guard ≡ SeesNoId) × (k.files ≡ Round ∷ [])
Knows (Recordless true) k = (k.guard ≡ SeesNoId) × (k.files ≡ Round ∷ [])
Knows (Puts left) k = (k.guard ≡ SeesNoFile) × (k.files ++ left ≡ first_files) × (all_made left ≡ true)
Knows (Lacks f left) k = (k.guard ≡ SeesNoFile) × (k.files ++ f ∷ left ≡ first_files) × (all_made (f ∷ left) ≡ true)
Knows (Blank f left) k = (k.guard ≡ SeesNoFile) × (k.files ++ f ∷ left ≡ first_files) × (all_made (f ∷ left) ≡ true) × (k.blank ≡ Some f)
Knows Kept k = (k.guard ≡ SeesNoFile) × (k.files ≡ first_files) × (k.synced ≡ true)
Knows (Signs id) k = (k.guard ≡ SeesNoFile) × (k.files ≡ first_files) × (k.synced ≡ true)
Knows ph k = Unit {0}

-- a phase in which nothing has to be known
abbrev free : Phase → Bool
free Beside = false
free (Fills left) = false
free (Finishes id) = false
free Filled = false
free Synced = false
free Named = false
free (Locks tried) = false
free Locked = false
free (New true) = false
free (Recordless true) = false
free (Puts left) = false
free (Lacks f left) = false
free (Blank f left) = false
free Kept = false
free (Signs id) = false
free ph = true

known_free : (ph : Phase) (k : Facts) → free ph ≡ true → Knows ph k
known_free Beside k is = absurd (cc)
known_free (Fills left) k is = absurd (cc)
known_free (Finishes id) k is = absurd (cc)
known_free Filled k is = absurd (cc)
known_free Synced k is = absurd (cc)
known_free Named k is = absurd (cc)
known_free (Locks tried) k is = absurd (cc)
known_free Locked k is = absurd (cc)
known_free (New true) k is = absurd (cc)
known_free (Recordless true) k is = absurd (cc)
known_free (Puts left) k is = absurd (cc)
known_free (Lacks f left) k is = absurd (cc)
known_free (Blank f left) k is = absurd (cc)
known_free Kept k is = absurd (cc)
known_free (Signs id) k is = absurd (cc)
known_free ph k is = tt

found_free : (named into : Bool) → free (found named into) ≡ true
found_free named true = refl
found_free named false = refl

absent_free : (into named : Bool) → free (absent into named) ≡ true
absent_free into true = refl
absent_free into false = refl

begins_free : (asked : Asked) (c : Call) → free (begins_on asked c) ≡ true
begins_free asked (IsThere true) = found_free asked.is_named asked.into
begins_free asked (IsThere false) = absent_free asked.into asked.is_named
begins_free asked c = refl

found_on_free : (named : Bool) (c : Call) → free (found_on named c) ≡ true
found_on_free named (HasId true) = refl
found_on_free named (HasId false) = refl
found_on_free named c = refl

absent_on_free : (into : Bool) (c : Call) → free (absent_on into c) ≡ true
absent_on_free into (DiskIsTaken place) = refl
absent_on_free into c = refl

above_free : (into : Bool) (c : Call) → free (above_on into c) ≡ true
above_free into ListIsTaken = refl
above_free into c = refl

synced_free : (c : Call) → free (synced_on c) ≡ true
synced_free HasRenamed = refl
synced_free c = refl

fails_free : (c : Call) → free (fails_on c) ≡ true
fails_free HasRemoved = refl
fails_free c = refl

removed_free : (c : Call) → free (removed_on c) ≡ true
removed_free (IsThere true) = refl
removed_free (IsThere false) = refl
removed_free c = refl

looks_free : (p : Purpose) (c : Call) → free (looks_on p c) ≡ true
looks_free p (IsFolder true) = refl
looks_free p (IsFolder false) = refl
looks_free p c = refl

folder_free : (p : Purpose) (c : Call) → free (folder_on p c) ≡ true
folder_free p (IsOwn true) = refl
folder_free p (IsOwn false) = refl
folder_free p c = refl

own_free : (p : Purpose) (c : Call) → free (own_on p c) ≡ true
own_free p (DiskIsTaken place) = refl
own_free p c = refl

version_free : (p : Purpose) (v : Version) → free (taken_if p v) ≡ true
version_free p V.Fits = refl
version_free p V.Old = refl
version_free p V.Other = refl

taken_free : (p : Purpose) (c : Call) → free (taken_on p c) ≡ true
taken_free p (RecordIs bytes) = version_free p (version_of bytes)
taken_free p (HasId it) = refl
taken_free p c = refl

dated_free : (p : Purpose) (c : Call) → free (dated_on p c) ≡ true
dated_free p (HasId true) = refl
dated_free p (HasId false) = refl
dated_free p c = refl

new_free : (named : Bool) → free (new named) ≡ true
new_free true = refl
new_free false = refl

unidentified_free : (p : Purpose) → free (unidentified p) ≡ true
unidentified_free (Make named) = new_free named
unidentified_free p = refl

identified_free : (p : Purpose) → free (identified p) ≡ true
identified_free (Make named) = refl
identified_free p = refl

checked_free : (p : Purpose) (c : Call) → free (checked_on p c) ≡ true
checked_free p (HasId true) = identified_free p
checked_free p (HasId false) = unidentified_free p
checked_free p c = refl

idless_free : (c : Call) → free (idless_on c) ≡ true
idless_free (RecordIs bytes) = refl
idless_free c = refl

old_free : (named : Bool) → free (old named) ≡ true
old_free true = refl
old_free false = refl

lost_free : (named lost : Bool) → free (bare_if named lost) ≡ true
lost_free named true = refl
lost_free named false = old_free named

bare_free : (named : Bool) (c : Call) → free (bare_on named c) ≡ true
bare_free named (RecordIs bytes) = lost_free named (is_lost bytes)
bare_free named c = refl

new_on_free : (c : Call) → free (new_on false c) ≡ true
new_on_free (RecordIs None) = refl
new_on_free (RecordIs (Some bytes)) = refl
new_on_free c = refl

refused_free : (file : Option FolderFile) → free (recordless_if false file) ≡ true
refused_free None = refl
refused_free (Some file) = refl

recordless_free : (c : Call) → free (recordless_on false c) ≡ true
recordless_free (FilesAre files) = refused_free (first_refused files)
recordless_free c = refl

free_free : (c : Call) → free (free_on c) ≡ true
free_free ListIsTaken = refl
free_free c = refl

signs_free : (c : Call) → free (signs_on c) ≡ true
signs_free (HasPut file bytes) = refl
signs_free c = refl

signed_free : (c : Call) → free (signed_on c) ≡ true
signed_free FolderIsSynced = refl
signed_free c = refl

made_free : (c : Call) → free (made_on c) ≡ true
made_free HasUnlocked = refl
made_free c = refl

kept_free : (c : Call) → free (identified_on c) ≡ true
kept_free (LenIs file None) = refl
kept_free (LenIs file (Some len)) = refl
kept_free c = refl

byte_free : (p : Purpose) (f : RunFile) (left : List RunFile) (b : Bool) → free (if b then Refuses (Empty f) else Whole p left) ≡ true
byte_free p f left true = refl
byte_free p f left false = refl

whole_free : (p : Purpose) (left : List RunFile) (c : Call) → free (whole_on p left c) ≡ true
whole_free p (f ∷ left) (LenIs file None) = refl
whole_free p (f ∷ left) (LenIs file (Some len)) = byte_free p f left (has_byte f && (len == 0))
whole_free p [] AboveIsSynced = refl
whole_free p left c = refl

entered_free : (c : Call) → free (entered_on c) ≡ true
entered_free ListIsTaken = refl
entered_free c = refl

same_made : (f g : RunFile) (b c : List ℕ) → MakeFile f b ≡ MakeFile g c → f ≡ g
same_made f g b c it = cc

same_put : (f g : RunFile) (b c : List ℕ) → Put f b ≡ Put g c → f ≡ g
same_put f g b c it = cc

same_replaced : (f g : RunFile) (b c : List ℕ) → Replace f b ≡ Replace g c → f ≡ g
same_replaced f g b c it = cc

same_measured : (f g : RunFile) → Measure f ≡ Measure g → f ≡ g
same_measured f g it = cc

first_holds : (a b : Bool) → a && b ≡ true → a ≡ true
first_holds true b it = refl
first_holds false b it = it

rest_holds : (a b : Bool) → a && b ≡ true → b ≡ true
rest_holds true b it = it
rest_holds false b it = absurd (cc)

-- one file more
more : (files left all : List RunFile) (f g : RunFile) → f ≡ g → files ++ g ∷ left ≡ all → (files ++ f ∷ []) ++ left ≡ all
more files left all f g same it = append_assoc files (f ∷ []) left ∙ ap (λ (x : RunFile). files ++ x ∷ left) same ∙ it

-- the last file
last : (files all : List RunFile) (f g : RunFile) → f ≡ g → files ≡ all → files ++ f ∷ [] ≡ all ++ g ∷ []
last files all f g same it = ap (λ (x : RunFile). files ++ x ∷ []) same ∙ ap (λ (xs : List RunFile). xs ++ g ∷ []) it

makes_known : (into : Bool) (k : Facts) (c : Call) → Knows (makes_on into c) (facts_after k c)
makes_known true k FolderIsMade = tt
makes_known false k (NameIsDrawn place) = refl
makes_known true k c = tt
makes_known false k c = tt

beside_known : (k : Facts) (c : Call) → Knows Beside k → Knows (beside_on c) (facts_after k c)
beside_known k BesideIsMade it = ap (λ (xs : List RunFile). xs ++ first_files) it
beside_known k c it = tt

fills_known : (left : List RunFile) (k : Facts) (c : Call) → Knows (Fills left) k → MayFill left (request_of c) → Knows (fills_on left c) (facts_after k c)
fills_known (f ∷ left) k (FileIsMade file bytes) it may = more k.files left first_files file f (same_made file f bytes (first_bytes f) may) it
fills_known [] k (IdIs id) it may = sym (append-nil k.files) ∙ it
fills_known (f ∷ left) k c it may = tt
fills_known [] k c it may = tt

finishes_known : (id : List ℕ) (k : Facts) (c : Call) → Knows (Finishes id) k → request_of c ≡ MakeFile Id id → Knows (finishes_on c) (facts_after k c)
finishes_known id k (FileIsMade file bytes) it may = last k.files first_files file Id (same_made file Id bytes id may) it
finishes_known id k c it may = tt

filled_known : (k : Facts) (c : Call) → Knows Filled k → Knows (filled_on c) (facts_after k c)
filled_known k BesideIsSynced it = (it, refl)
filled_known k c it = tt

listed_known : (k : Facts) (c : Call) → Knows (listed_on c) (facts_after k c)
listed_known k (NameIsDrawn place) = refl
listed_known k c = tt

named_known : (k : Facts) (c : Call) → Knows Named k → request_of c ≡ Put Round (first_bytes Round) → Knows (named_on c) (facts_after k c)
named_known k (HasPut file bytes) it may = last k.files [] file Round (same_put file Round bytes (first_bytes Round) may) it
named_known k c it may = tt

locks_known : (k : Facts) (c : Call) → k.files ≡ Round ∷ [] → Knows (locks_on c) (facts_after k c)
locks_known k (Tried true) it = (refl, it)
locks_known k (Tried false) it = it
locks_known k c it = tt

locked_known : (k : Facts) (c : Call) → Knows Locked k → Knows (locked_on c) (facts_after k c)
locked_known k (HasId true) it = tt
locked_known k (HasId false) it = (ap (λ g. guard_by_id g false) it.0, it.1)
locked_known k c it = tt

new_known : (locked : Bool) (k : Facts) (c : Call) → Knows (New locked) k → Knows (new_on locked c) (facts_after k c)
new_known false k c it = known_free (new_on false c) (facts_after k c) (new_on_free c)
new_known true k (RecordIs None) it = it
new_known true k (RecordIs (Some bytes)) it = tt
new_known true k c it = tt

refused_known : (k : Facts) (file : Option FolderFile) → Knows (Recordless true) k
    → Knows (recordless_if true file) (record { guard = guard_by_files k.guard file; files = k.files; blank = None; synced = false })
refused_known k None it = (ap (λ g. guard_by_files g None) it.0, ap (λ (xs : List RunFile). xs ++ files_after Round) it.1, refl)
refused_known k (Some file) it = tt

recordless_known : (locked : Bool) (k : Facts) (c : Call) → Knows (Recordless locked) k → Knows (recordless_on locked c) (facts_after k c)
recordless_known false k c it = known_free (recordless_on false c) (facts_after k c) (recordless_free c)
recordless_known true k (FilesAre files) it = refused_known k (first_refused files) it
recordless_known true k c it = tt

byte_known : (k : Facts) (f file : RunFile) (left : List RunFile) (b : Bool) → file ≡ f → Knows (Puts (f ∷ left)) k
    → Knows (if b then Blank f left else Puts left) (record { guard = k.guard; files = files_if k.files file b; blank = blank_if file b; synced = false })
byte_known k f file left true same it = (it.0, it.1, it.2, ap Some same)
byte_known k f file left false same it = (it.0, more k.files left first_files file f same it.1, rest_holds (is_made f) (all_made left) it.2)

len_known : (k : Facts) (f file : RunFile) (left : List RunFile) (len : Option ℕ) → file ≡ f → Knows (Puts (f ∷ left)) k → Knows (puts_if f left len) (facts_after k (LenIs file len))
len_known k f file left None same it = it
len_known k f file left (Some len) same it = byte_known k f file left (len == 0) same it

puts_known : (left : List RunFile) (k : Facts) (c : Call) → Knows (Puts left) k → MayPut left (request_of c) → Knows (puts_on left c) (facts_after k c)
puts_known (f ∷ left) k (LenIs file len) it may = len_known k f file left len (same_measured file f may) it
puts_known [] k FolderIsSynced it may = (it.0, sym (append-nil k.files) ∙ it.1, refl)
puts_known (f ∷ left) k c it may = tt
puts_known [] k c it may = tt

lacks_known : (f : RunFile) (left : List RunFile) (k : Facts) (c : Call) → Knows (Lacks f left) k → request_of c ≡ Put f (first_bytes f) → Knows (lacks_on left c) (facts_after k c)
lacks_known f left k (HasPut file bytes) it may =
    (it.0, more k.files left first_files file f (same_put file f bytes (first_bytes f) may) it.1, rest_holds (is_made f) (all_made left) it.2)
lacks_known f left k c it may = tt

blank_known : (f : RunFile) (left : List RunFile) (k : Facts) (c : Call) → Knows (Blank f left) k → request_of c ≡ Replace f (first_bytes f) → Knows (blank_on left c) (facts_after k c)
blank_known f left k (HasReplaced file bytes) it may =
    (it.0, more k.files left first_files file f (same_replaced file f bytes (first_bytes f) may) it.1, rest_holds (is_made f) (all_made left) it.2)
blank_known f left k c it may = tt

draws_known : (k : Facts) (c : Call) → Knows Kept k → Knows (kept_on c) (facts_after k c)
draws_known k (IdIs id) it = it
draws_known k c it = tt

-- what is known after one call more
step_known : (ph : Phase) (k : Facts) (c : Call) → Knows ph k → Allows ph (request_of c) → Knows (phase_after ph c) (facts_after k c)
step_known (Begins asked) k c it may = known_free (begins_on asked c) (facts_after k c) (begins_free asked c)
step_known (Found named) k c it may = known_free (found_on named c) (facts_after k c) (found_on_free named c)
step_known (Absent into) k c it may = known_free (absent_on into c) (facts_after k c) (absent_on_free into c)
step_known (Above into) k c it may = known_free (above_on into c) (facts_after k c) (above_free into c)
step_known (Makes into) k c it may = makes_known into k c
step_known Beside k c it may = beside_known k c it
step_known (Fills left) k c it may = fills_known left k c it may
step_known (Finishes id) k c it may = finishes_known id k c it may
step_known Filled k c it may = filled_known k c it
step_known Synced k c it may = known_free (synced_on c) (facts_after k c) (synced_free c)
step_known Fails k c it may = known_free (fails_on c) (facts_after k c) (fails_free c)
step_known Removed k c it may = known_free (removed_on c) (facts_after k c) (removed_free c)
step_known (Looks p) k c it may = known_free (looks_on p c) (facts_after k c) (looks_free p c)
step_known (Folder p) k c it may = known_free (folder_on p c) (facts_after k c) (folder_free p c)
step_known (Own p) k c it may = known_free (own_on p c) (facts_after k c) (own_free p c)
step_known (Taken p) k c it may = known_free (taken_on p c) (facts_after k c) (taken_free p c)
step_known (Dated p) k c it may = known_free (dated_on p c) (facts_after k c) (dated_free p c)
step_known (Checked p) k c it may = known_free (checked_on p c) (facts_after k c) (checked_free p c)
step_known Idless k c it may = known_free (idless_on c) (facts_after k c) (idless_free c)
step_known (Bare named) k c it may = known_free (bare_on named c) (facts_after k c) (bare_free named c)
step_known (New locked) k c it may = new_known locked k c it
step_known (Recordless locked) k c it may = recordless_known locked k c it
step_known Free k c it may = known_free (free_on c) (facts_after k c) (free_free c)
step_known Listed k c it may = listed_known k c
step_known Named k c it may = named_known k c it may
step_known (Locks tried) k c it may = locks_known k c it
step_known Locked k c it may = locked_known k c it
step_known (Puts left) k c it may = puts_known left k c it may
step_known (Lacks f left) k c it may = lacks_known f left k c it may
step_known (Blank f left) k c it may = blank_known f left k c it may
step_known Kept k c it may = draws_known k c it
step_known (Signs id) k c it may = known_free (signs_on c) (facts_after k c) (signs_free c)
step_known Signed k c it may = known_free (signed_on c) (facts_after k c) (signed_free c)
step_known Made k c it may = known_free (made_on c) (facts_after k c) (made_free c)
step_known Identified k c it may = known_free (identified_on c) (facts_after k c) (kept_free c)
step_known (Whole p left) k c it may = known_free (whole_on p left c) (facts_after k c) (whole_free p left c)
step_known OldRead k c it may = tt
step_known Seen k c it may = tt
step_known Entered k c it may = known_free (entered_on c) (facts_after k c) (entered_free c)
step_known Done k c it may = tt
step_known (Refuses why) k c it may = tt
step_known (RefusesFile name) k c it may = tt
step_known Ended k c it may = tt

at : (k : Facts) (r x : Request) → r ≡ x → KeepsRules k x → KeepsRules k r
at k r x it rule = subst (λ (q : Request). KeepsRules k q) (sym it) rule

makes_rule : (into : Bool) (k : Facts) (r : Request) → MayMake into r → KeepsRules k r
makes_rule true k r it = at k r MakeFolder it tt
makes_rule false k r it = at k r (DrawName P.Above) it tt

fills_rule : (left : List RunFile) (k : Facts) (r : Request) → MayFill left r → KeepsRules k r
fills_rule [] k r it = at k r DrawId it tt
fills_rule (f ∷ left) k r it = at k r (MakeFile f (first_bytes f)) it tt

date_rule : (p : Purpose) (k : Facts) (r : Request) → MayDate p r → KeepsRules k r
date_rule p k r (inl it) = at k r ReadRecord it tt
date_rule p k r (inr it) = at k r ReadId it.1 tt

puts_rule : (left : List RunFile) (k : Facts) (r : Request) → MayPut left r → KeepsRules k r
puts_rule [] k r it = at k r SyncFolder it tt
puts_rule (f ∷ left) k r it = at k r (Measure f) it tt

put_rule : (f : RunFile) (k : Facts) → is_made f ≡ true → k.guard ≡ SeesNoFile → MayPutFile k f
put_rule Round k made guard = tt
put_rule Id k made guard = absurd (cc)
put_rule f k made guard = guard

see_rule : (p : Purpose) (left : List RunFile) (k : Facts) (r : Request) → MaySee p left r → KeepsRules k r
see_rule p (f ∷ left) k r it = at k r (Measure f) it tt
see_rule Enter [] k r it = at k r SyncAbove it tt
see_rule p [] k r it = absurd it

-- each call that is allowed keeps the rules
rule_kept : (ph : Phase) (k : Facts) (r : Request) → Knows ph k → Allows ph r → KeepsRules k r
rule_kept (Begins asked) k r it may = at k r LookUp may tt
rule_kept (Found named) k r it may = at k r ReadId may tt
rule_kept (Absent into) k r it may = at k r (CheckDisk P.Above) may tt
rule_kept (Above into) k r it may = at k r CheckList may tt
rule_kept (Makes into) k r it may = makes_rule into k r may
rule_kept Beside k r it may = at k r MakeBeside may tt
rule_kept (Fills left) k r it may = fills_rule left k r may
rule_kept (Finishes id) k r it may = at k r (MakeFile Id id) may tt
rule_kept Filled k r it may = at k r SyncBeside may tt
rule_kept Synced k r it may = at k r Rename may it
rule_kept Fails k r it may = at k r RemoveBeside may tt
rule_kept Removed k r it may = at k r LookUp may tt
rule_kept (Looks p) k r it may = at k r AskFolder may tt
rule_kept (Folder p) k r it may = at k r AskOwner may tt
rule_kept (Own p) k r it may = at k r (CheckDisk P.Run) may tt
rule_kept (Taken p) k r it may = date_rule p k r may
rule_kept (Dated p) k r it may = at k r ReadId may tt
rule_kept (Checked p) k r it may = at k r ReadId may tt
rule_kept Idless k r it may = at k r ReadRecord may tt
rule_kept (Bare named) k r it may = at k r ReadRecord may tt
rule_kept (New locked) k r it may = at k r ReadRecord may tt
rule_kept (Recordless locked) k r it may = at k r ListFiles may tt
rule_kept Free k r it may = at k r CheckList may tt
rule_kept Listed k r it may = at k r (DrawName P.Run) may tt
rule_kept Named k r it may = at k r (Put Round (first_bytes Round)) may tt
rule_kept (Locks tried) k r it may = at k r TryLock may tt
rule_kept Locked k r it may = at k r ReadId may tt
rule_kept (Puts left) k r it may = puts_rule left k r may
rule_kept (Lacks f left) k r it may = at k r (Put f (first_bytes f)) may (put_rule f k (first_holds (is_made f) (all_made left) it.2) it.0)
rule_kept (Blank f left) k r it may = at k r (Replace f (first_bytes f)) may (it.0, it.3)
rule_kept Kept k r it may = at k r DrawId may tt
rule_kept (Signs id) k r it may = at k r (Put Id id) may it
rule_kept Signed k r it may = at k r SyncFolder may tt
rule_kept Made k r it may = at k r Unlock may tt
rule_kept Identified k r it may = at k r (Measure Forgotten) may tt
rule_kept (Whole p left) k r it may = see_rule p left k r may
rule_kept OldRead k r it may = absurd may
rule_kept Seen k r it may = absurd may
rule_kept Entered k r it may = at k r CheckList may tt
rule_kept Done k r it may = absurd may
rule_kept (Refuses why) k r it may = absurd may
rule_kept (RefusesFile name) k r it may = absurd may
rule_kept Ended k r it may = absurd may

keep_rules : (ph : Phase) (k : Facts) (cs : List Call) → Knows ph k → AreAllowed ph cs → KeepRules k cs
keep_rules ph k [] it all = tt
keep_rules ph k (c ∷ cs) it all = (rule_kept ph k (request_of c) it all.0, keep_rules (phase_after ph c) (facts_after k c) cs (step_known ph k c it all.0) all.1)

-- so a door keeps them
pub door_keeps_rules : (asked : Asked) (cs : List Call) → AreAllowed (Begins asked) cs → KeepRules no_facts cs
door_keeps_rules asked cs all = keep_rules (Begins asked) no_facts cs tt all
