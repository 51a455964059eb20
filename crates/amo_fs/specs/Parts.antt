-- The parts of a text, and the first of them of which something is so.
use Rattle.std.specs.Prelude.{ℕ, ◌==◌, List, [], ◌∷◌, Option, None}
use Rattle.std.specs.Option.{option_or}
use Rattle.std.specs.List.{slice_split}

-- the lines of a text
abbrev pub lines_of : List ℕ → List (List ℕ)
lines_of text = slice_split (λ b. b == 10) text

-- the fields of a line, one blank between each two
abbrev pub fields_of : List ℕ → List (List ℕ)
fields_of line = slice_split (λ b. b == 32) line

-- the options of a field, a comma between each two
abbrev pub options_of : List ℕ → List (List ℕ)
options_of field = slice_split (λ b. b == 44) field

-- what is read of the first part of which anything is read
abbrev pub first_by : {A B : Type 0} → (A → Option B) → List A → Option B
first_by read [] = None
first_by read (x ∷ xs) = option_or (read x) (first_by read xs)
