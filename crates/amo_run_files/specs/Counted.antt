-- The count of a journal's appends when a round begins, and the journals that keep it.
use Rattle.std.specs.Prelude.{◌-◌, ◌==◌, ◌&&◌, ℕ, Bool, nat_le, List, [], ◌∷◌, length, slice_index_or, Option, Some, None, if◌then◌else◌}
use Rattle.std.specs.Str.{bytes_eq}
use Rattle.amo_run_files.specs.declared.count.Count.{Count}
use Rattle.amo_run_files.specs.Extents.{ExtentView}

-- a count, with its checksum as digits
pub record CountView : Type 0 where
  pub appends : ℕ
  pub checksum : List ℕ

-- what a count says
abbrev pub counted : Count → CountView
counted c = record { appends = c.appends; checksum = c.checksum.digits }

-- the checksum after so many appends of a journal with these checksums; after no append it is the
-- first checksum
abbrev pub checksum_at : List ℕ → List (List ℕ) → ℕ → List ℕ
checksum_at first checksums appends = slice_index_or (first ∷ checksums) appends []

-- the count of a journal: its appends before the last one, and the checksum after them
abbrev pub count_of : List ℕ → List (List ℕ) → CountView
count_of first checksums = record { appends = length checksums - 1; checksum = checksum_at first checksums (length checksums - 1) }

-- whether a journal has at least so many appends, and has this checksum after them
abbrev pub is_kept : CountView → List ℕ → List (List ℕ) → Bool
is_kept c first checksums = nat_le c.appends (length checksums) && bytes_eq (checksum_at first checksums c.appends) c.checksum

-- the extent of a count
abbrev pub extent_of_count : List ℕ → CountView → ExtentView
extent_of_count name c = record { name = name; len = c.appends; digest = c.checksum }

-- the count that an extent says, if its digest is a checksum
abbrev pub count_in : ExtentView → Option CountView
count_in e = if length e.digest == 8 then Some (record { appends = e.len; checksum = e.digest }) else None
