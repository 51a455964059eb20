-- Which version has written a record, by its first line.
use Rattle.std.specs.Prelude.{ℕ, Bool, false, not, ◌||◌, List, codes, length, take, Option, Some, None, if◌then◌else◌}
use Rattle.std.specs.Str.{bytes_eq}
use Rattle.amo_dir_admission.specs.declared.halt.Refusal.{Refusal}
use Rattle.amo_dir_admission.specs.declared.halt.Refusal.TheVariants.{NoId, LostId, OldRun}
use Rattle.amo_dir_admission.specs.declared.version.Version.{Version}
use Rattle.amo_dir_admission.specs.declared.version.Version.TheVariants.{Fits, Old, Other}

-- Whether the bytes begin with these.
abbrev pub begins_with : (bytes front : List ℕ) → Bool
begins_with bytes front = bytes_eq front (take (length front) bytes)

-- How the record of a run of this version begins.
abbrev pub this_version : List ℕ
this_version = codes "amo-run 2\n"

-- How the record of a run of version 0.1.0 begins.
abbrev pub old_version : List ℕ
old_version = codes "amo-run 1\n"

-- The version by a record, if there is one. A file that isn't a record says nothing.
abbrev pub version_of : Option (List ℕ) → Version
version_of None = Fits
version_of (Some bytes) =
    if begins_with bytes this_version || not (begins_with bytes (codes "amo-run ")) then Fits
    else (if begins_with bytes old_version then Old else Other)

-- Why a folder without an id is refused, by its record.
abbrev pub lost_id : (record_bytes : List ℕ) → Refusal
lost_id bytes = if begins_with bytes this_version then LostId else OldRun

-- Why a folder without an id is refused, by its record if it has one.
abbrev pub no_id : Option (List ℕ) → Refusal
no_id None = NoId
no_id (Some bytes) = lost_id bytes

-- Whether a folder without an id has lost it, by its record if it has one.
abbrev pub is_lost : Option (List ℕ) → Bool
is_lost None = false
is_lost (Some bytes) = begins_with bytes this_version
