-- If the id of a run is named, no call makes anything.
use Rattle.std.proofs.Common.{◌≡◌, inl, inr, Bool, ◌&&◌, true, false, ◌==◌, List, [], ◌∷◌, None, Some, refl, ap}
use Rattle.std.specs.Prelude.{if◌then◌else◌}
use Rattle.amo_dir_admission.specs.declared.halt.Refusal.TheVariants.{Empty}
use Rattle.amo_dir_admission.specs.declared.model.Asked.{Asked}
use Rattle.amo_dir_admission.specs.declared.model.Purpose.{Purpose}
use Rattle.amo_dir_admission.specs.declared.model.Purpose.TheVariants.{Make, Enter}
use Rattle.amo_dir_admission.specs.declared.model.RunFile.{RunFile}
use Rattle.amo_dir_admission.specs.declared.version.Version.{Version}
use Rattle.amo_dir_admission.specs.declared.version.Version.TheVariants as V
use Rattle.amo_dir_admission.specs.Calls.{Request, request_of}
use Rattle.amo_dir_admission.specs.Calls.{Call, IsThere, IsFolder, IsOwn, DiskIsTaken, RecordIs, HasId, LenIs, ListIsTaken, AboveIsSynced}
use Rattle.amo_dir_admission.specs.Files.{has_byte}
use Rattle.amo_dir_admission.specs.Phase.{Phase, Begins, Found, Looks, Folder, Own, Taken, Dated, Checked, Idless, Bare, Identified, Whole, OldRead, Seen, Entered, Done, Refuses, RefusesFile, Ended}
use Rattle.amo_dir_admission.specs.Protocol.{absent, bare_if, bare_on, begins_on, checked_on, dated_on, entered_on, folder_on, found, found_on, identified, identified_on, idless_on, looks_on, new, old, own_on, taken_if, taken_on, unidentified, whole_on, phase_after, Allows, AreAllowed, MayDate, MaySee}
use Rattle.amo_dir_admission.specs.Rules.{makes, MakeNothing}
use Rattle.amo_dir_admission.specs.Versions.{is_lost, version_of}

-- what is looked for makes nothing
abbrev quiet_for : Purpose → Bool
quiet_for (Make named) = named
quiet_for p = true

-- the phases that are reached then
abbrev quiet : Phase → Bool
quiet (Begins asked) = asked.is_named
quiet (Found named) = named
quiet (Looks p) = quiet_for p
quiet (Folder p) = quiet_for p
quiet (Own p) = quiet_for p
quiet (Taken p) = quiet_for p
quiet (Dated p) = quiet_for p
quiet (Checked p) = quiet_for p
quiet Idless = true
quiet (Bare named) = true
quiet Identified = true
quiet (Whole p left) = true
quiet OldRead = true
quiet Seen = true
quiet Entered = true
quiet Done = true
quiet (Refuses why) = true
quiet (RefusesFile name) = true
quiet Ended = true
quiet ph = false

absent_quiet : (into named : Bool) → named ≡ true → quiet (absent into named) ≡ true
absent_quiet into true is = refl
absent_quiet into false is = absurd (cc)

found_quiet : (named into : Bool) → named ≡ true → quiet (found named into) ≡ true
found_quiet named true is = is
found_quiet named false is = is

begins_quiet : (asked : Asked) (c : Call) → asked.is_named ≡ true → quiet (begins_on asked c) ≡ true
begins_quiet asked (IsThere true) is = found_quiet asked.is_named asked.into is
begins_quiet asked (IsThere false) is = absent_quiet asked.into asked.is_named is
begins_quiet asked c is = refl

found_on_quiet : (named : Bool) (c : Call) → named ≡ true → quiet (found_on named c) ≡ true
found_on_quiet named (HasId true) is = refl
found_on_quiet named (HasId false) is = is
found_on_quiet named c is = refl

looks_quiet : (p : Purpose) (c : Call) → quiet_for p ≡ true → quiet (looks_on p c) ≡ true
looks_quiet p (IsFolder true) is = is
looks_quiet p (IsFolder false) is = refl
looks_quiet p c is = refl

folder_quiet : (p : Purpose) (c : Call) → quiet_for p ≡ true → quiet (folder_on p c) ≡ true
folder_quiet p (IsOwn true) is = is
folder_quiet p (IsOwn false) is = refl
folder_quiet p c is = refl

own_quiet : (p : Purpose) (c : Call) → quiet_for p ≡ true → quiet (own_on p c) ≡ true
own_quiet p (DiskIsTaken place) is = is
own_quiet p c is = refl

version_quiet : (p : Purpose) (v : Version) → quiet_for p ≡ true → quiet (taken_if p v) ≡ true
version_quiet p V.Fits is = is
version_quiet p V.Old is = is
version_quiet p V.Other is = refl

taken_quiet : (p : Purpose) (c : Call) → quiet_for p ≡ true → quiet (taken_on p c) ≡ true
taken_quiet p (RecordIs bytes) is = version_quiet p (version_of bytes) is
taken_quiet p (HasId it) is = refl
taken_quiet p c is = refl

dated_quiet : (p : Purpose) (c : Call) → quiet_for p ≡ true → quiet (dated_on p c) ≡ true
dated_quiet p (HasId true) is = refl
dated_quiet p (HasId false) is = is
dated_quiet p c is = refl

new_quiet : (named : Bool) → named ≡ true → quiet (new named) ≡ true
new_quiet true is = refl
new_quiet false is = absurd (cc)

unidentified_quiet : (p : Purpose) → quiet_for p ≡ true → quiet (unidentified p) ≡ true
unidentified_quiet (Make named) is = new_quiet named is
unidentified_quiet p is = refl

identified_quiet : (p : Purpose) → quiet (identified p) ≡ true
identified_quiet (Make named) = refl
identified_quiet p = refl

checked_quiet : (p : Purpose) (c : Call) → quiet_for p ≡ true → quiet (checked_on p c) ≡ true
checked_quiet p (HasId true) is = identified_quiet p
checked_quiet p (HasId false) is = unidentified_quiet p is
checked_quiet p c is = refl

idless_quiet : (c : Call) → quiet (idless_on c) ≡ true
idless_quiet (RecordIs bytes) = refl
idless_quiet c = refl

old_quiet : (named : Bool) → quiet (old named) ≡ true
old_quiet true = refl
old_quiet false = refl

lost_quiet : (named lost : Bool) → quiet (bare_if named lost) ≡ true
lost_quiet named true = refl
lost_quiet named false = old_quiet named

bare_quiet : (named : Bool) (c : Call) → quiet (bare_on named c) ≡ true
bare_quiet named (RecordIs bytes) = lost_quiet named (is_lost bytes)
bare_quiet named c = refl

kept_quiet : (c : Call) → quiet (identified_on c) ≡ true
kept_quiet (LenIs file None) = refl
kept_quiet (LenIs file (Some len)) = refl
kept_quiet c = refl

byte_quiet : (p : Purpose) (f : RunFile) (left : List RunFile) (b : Bool) → quiet (if b then Refuses (Empty f) else Whole p left) ≡ true
byte_quiet p f left true = refl
byte_quiet p f left false = refl

whole_quiet : (p : Purpose) (left : List RunFile) (c : Call) → quiet (whole_on p left c) ≡ true
whole_quiet p (f ∷ left) (LenIs file None) = refl
whole_quiet p (f ∷ left) (LenIs file (Some len)) = byte_quiet p f left (has_byte f && (len == 0))
whole_quiet p [] AboveIsSynced = refl
whole_quiet p left c = refl

entered_quiet : (c : Call) → quiet (entered_on c) ≡ true
entered_quiet ListIsTaken = refl
entered_quiet c = refl

-- the phase after a call is one of them too
step_quiet : (ph : Phase) (c : Call) → quiet ph ≡ true → quiet (phase_after ph c) ≡ true
step_quiet (Begins asked) c is = begins_quiet asked c is
step_quiet (Found named) c is = found_on_quiet named c is
step_quiet (Looks p) c is = looks_quiet p c is
step_quiet (Folder p) c is = folder_quiet p c is
step_quiet (Own p) c is = own_quiet p c is
step_quiet (Taken p) c is = taken_quiet p c is
step_quiet (Dated p) c is = dated_quiet p c is
step_quiet (Checked p) c is = checked_quiet p c is
step_quiet Idless c is = idless_quiet c
step_quiet (Bare named) c is = bare_quiet named c
step_quiet Identified c is = kept_quiet c
step_quiet (Whole p left) c is = whole_quiet p left c
step_quiet Entered c is = entered_quiet c
step_quiet OldRead c is = refl
step_quiet Seen c is = refl
step_quiet Done c is = refl
step_quiet (Refuses why) c is = refl
step_quiet (RefusesFile name) c is = refl
step_quiet Ended c is = refl
step_quiet ph c is = absurd (cc)

date_quiet : (p : Purpose) (r : Request) → MayDate p r → makes r ≡ false
date_quiet p r (inl it) = ap makes it
date_quiet p r (inr it) = ap makes it.1

see_quiet : (p : Purpose) (left : List RunFile) (r : Request) → MaySee p left r → makes r ≡ false
see_quiet p (f ∷ left) r it = ap makes it
see_quiet Enter [] r it = ap makes it
see_quiet p [] r it = absurd it

-- they allow no call that makes something
call_quiet : (ph : Phase) (r : Request) → quiet ph ≡ true → Allows ph r → makes r ≡ false
call_quiet (Begins asked) r is it = ap makes it
call_quiet (Found named) r is it = ap makes it
call_quiet (Looks p) r is it = ap makes it
call_quiet (Folder p) r is it = ap makes it
call_quiet (Own p) r is it = ap makes it
call_quiet (Taken p) r is it = date_quiet p r it
call_quiet (Dated p) r is it = ap makes it
call_quiet (Checked p) r is it = ap makes it
call_quiet Idless r is it = ap makes it
call_quiet (Bare named) r is it = ap makes it
call_quiet Identified r is it = ap makes it
call_quiet (Whole p left) r is it = see_quiet p left r it
call_quiet Entered r is it = ap makes it
call_quiet OldRead r is it = absurd it
call_quiet Seen r is it = absurd it
call_quiet Done r is it = absurd it
call_quiet (Refuses why) r is it = absurd it
call_quiet (RefusesFile name) r is it = absurd it
call_quiet Ended r is it = absurd it
call_quiet ph r is it = absurd (cc)

make_nothing : (ph : Phase) (cs : List Call) → quiet ph ≡ true → AreAllowed ph cs → MakeNothing cs
make_nothing ph [] is all = tt
make_nothing ph (c ∷ cs) is all = (call_quiet ph (request_of c) is all.0, make_nothing (phase_after ph c) cs (step_quiet ph c is) all.1)

-- so a door makes nothing
pub door_makes_nothing : (asked : Asked) (cs : List Call) → asked.is_named ≡ true → AreAllowed (Begins asked) cs → MakeNothing cs
door_makes_nothing asked cs is all = make_nothing (Begins asked) cs is all
