-- The text of /proc/self/fdinfo/FD, as far as it names a mount.
use Rattle.std.specs.Prelude.{◌≡◌, ℕ, ◌&&◌, nat_le, List, [], ◌∷◌, ◌++◌, codes, length, take, drop, Option, Some, None, if◌then◌else◌}
use Rattle.std.specs.List.{AllByRecursion}
use Rattle.std.specs.Str.{bytes_eq}
use Rattle.amo_fs.specs.Parts.{lines_of, first_by}

-- how the line of the id begins: its name, a colon and a tab
abbrev pub id_name : List ℕ
id_name = codes "mnt_id:" ++ 9 ∷ []

-- the rest of the line, if the line begins so
abbrev pub id_of : List ℕ → Option (List ℕ)
id_of line = if nat_le 8 (length line) && bytes_eq (take 8 line) id_name then Some (drop 8 line) else None

-- the id of the first line that has one
abbrev pub first_id : List (List ℕ) → Option (List ℕ)
first_id lines = first_by id_of lines

-- the id in the text
abbrev pub mnt_id_in : List ℕ → Option (List ℕ)
mnt_id_in text = first_id (lines_of text)

-- no line of these is one of an id
abbrev pub NoIds : List (List ℕ) → Type 0
NoIds lines = AllByRecursion (λ line. (id : List ℕ) → line ≡ id_name ++ id → ⊥) lines

-- a line of the text is that of this id, and no line before it is one of an id
pub record IsIdIn (text id : List ℕ) : Type 0 where
  pub before : List (List ℕ)
  pub behind : List (List ℕ)
  pub lines : lines_of text ≡ before ++ (id_name ++ id) ∷ behind
  pub first : NoIds before

-- no line of the text is one of an id
abbrev pub NoIdIn : List ℕ → Type 0
NoIdIn text = NoIds (lines_of text)
