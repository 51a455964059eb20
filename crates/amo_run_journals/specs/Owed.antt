-- A journal is owed at most one entry, which its next append takes along.
use Rattle.std.specs.Prelude.{List, [], ◌∷◌, Option, Some, None}
use Rattle.amo_run_log.specs.declared.entry.Entry.{Entry}

-- the entries that are owed
abbrev pub owed_entries : Option Entry → List Entry
owed_entries None = []
owed_entries (Some entry) = entry ∷ []
