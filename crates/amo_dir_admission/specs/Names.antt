-- Which names in a folder are those of a run's files, and whether a run can be made there.
use Rattle.std.specs.Prelude.{ℕ, Bool, true, false, ◌&&◌, ◌||◌, ◌==◌, nat_le, nat_lt, List, [], ◌∷◌, codes, Option, Some, None, if◌then◌else◌, string_bytes}
use Rattle.std.specs.Str.{bytes_eq}
use Rattle.amo_dir_admission.specs.declared.names.Kind.{Kind}
use Rattle.amo_dir_admission.specs.declared.names.Kind.TheVariants.{Free, First, Later}
use Rattle.amo_dir_admission.specs.declared.names.FolderFile.{FolderFile}

-- a digit from 0 to 9
abbrev pub is_digit : ℕ → Bool
is_digit byte = nat_le 48 byte && nat_le byte 57

-- the bytes after the digits at the front
abbrev pub behind_digits : List ℕ → List ℕ
behind_digits [] = []
behind_digits (b ∷ bytes) = if is_digit b then behind_digits bytes else b ∷ bytes

-- the bytes after one byte of a pattern: # stands for one digit or more, each other byte for itself
abbrev pub behind : ℕ → List ℕ → Option (List ℕ)
behind p [] = None
behind p (b ∷ name) =
    if p == 35 then (if is_digit b then Some (behind_digits name) else None)
    else (if p == b then Some name else None)

-- whether nothing is left of a name after a pattern
abbrev pub fits_rest : List ℕ → Option (List ℕ) → Bool
fits_rest pattern None = false
fits_rest [] (Some []) = true
fits_rest [] (Some (b ∷ name)) = false
fits_rest (p ∷ pattern) (Some name) = fits_rest pattern (behind p name)

-- whether a name is one of a pattern's
abbrev pub fits : List ℕ → List ℕ → Bool
fits pattern name = fits_rest pattern (Some name)

-- the journal of a worker, 1 to 8
abbrev pub is_low_journal : List ℕ → Bool
is_low_journal name =
    bytes_eq name (codes "journal.1") || bytes_eq name (codes "journal.2") || bytes_eq name (codes "journal.3") || bytes_eq name (codes "journal.4")
    || bytes_eq name (codes "journal.5") || bytes_eq name (codes "journal.6") || bytes_eq name (codes "journal.7") || bytes_eq name (codes "journal.8")

-- 9 to 16
abbrev pub is_high_journal : List ℕ → Bool
is_high_journal name =
    bytes_eq name (codes "journal.9") || bytes_eq name (codes "journal.10") || bytes_eq name (codes "journal.11") || bytes_eq name (codes "journal.12")
    || bytes_eq name (codes "journal.13") || bytes_eq name (codes "journal.14") || bytes_eq name (codes "journal.15") || bytes_eq name (codes "journal.16")

-- a file that a door makes before it makes the id
abbrev pub is_first : List ℕ → Bool
is_first name = bytes_eq name (codes "lock.round") || bytes_eq name (codes "answers") || is_low_journal name || is_high_journal name

-- another file that amo makes, if its name has no number
abbrev pub is_plain : List ℕ → Bool
is_plain name =
    bytes_eq name (codes "id") || bytes_eq name (codes "forgotten") || bytes_eq name (codes "record") || bytes_eq name (codes "jobs")
    || bytes_eq name (codes "words") || bytes_eq name (codes "command") || bytes_eq name (codes "crew")

-- one that is put in the place of another, or is locked
abbrev pub is_beside : List ℕ → Bool
is_beside name =
    bytes_eq name (codes "shared") || bytes_eq name (codes "lock") || bytes_eq name (codes "record.new")
    || bytes_eq name (codes "jobs.new") || bytes_eq name (codes "words.new") || bytes_eq name (codes "command.new")

-- a file whose name has one number or two
abbrev pub is_numbered : List ℕ → Bool
is_numbered name =
    fits (codes "journal.#") name || fits (codes "runner.#") name || fits (codes "pace.#") name || fits (codes "command.#.#") name
    || fits (codes "out.#.#") name || fits (codes "err.#.#") name || fits (codes "chunk.#") name || fits (codes "chunk.#.new") name

-- what a name in a folder is
abbrev pub kind_of : List ℕ → Kind
kind_of name = if is_first name then First else (if is_plain name || is_beside name || is_numbered name then Later else Free)

-- whether a file of this kind and of this many bytes can't be in a folder in which a run is made
abbrev pub is_refused : Kind → Option ℕ → Bool
is_refused Free len = false
is_refused First (Some len) = nat_lt 1 len
is_refused First None = true
is_refused Later len = true

-- the first such file
abbrev pub first_refused : List FolderFile → Option FolderFile
first_refused [] = None
first_refused (file ∷ files) = if is_refused (kind_of (string_bytes file.name)) file.len then Some file else first_refused files
