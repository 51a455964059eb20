-- The extent of a file among those that a round header has.
use Rattle.std.specs.Prelude.{ℕ, List, [], ◌∷◌, Option, Some, None, if◌then◌else◌}
use Rattle.std.specs.Str.{bytes_eq}
use Rattle.amo_run_files.specs.declared.extent.Extent.{Extent}

-- the first extent of the file of this name
abbrev pub extent_named : List ℕ → List Extent → Option Extent
extent_named name [] = None
extent_named name (e ∷ extents) = if bytes_eq e.name.items name then Some e else extent_named name extents
