-- The lines of a file. A line feed ends each. The bytes after the last line feed have no end yet.
use Rattle.std.specs.Prelude.{◌≡◌, ℕ, zero, suc, ◌+◌, List, [], ◌∷◌, ◌++◌, length, take, ◌==◌, if◌then◌else◌}

-- the lines from here on; of the first this much was read before
abbrev pub lines_from : List ℕ → List ℕ → List (List ℕ)
lines_from begun [] = []
lines_from begun (b ∷ bytes) = if b == 10 then begun ∷ lines_from [] bytes else lines_from (begun ++ b ∷ []) bytes

-- the bytes after the last line feed from here on
abbrev pub remainder_from : List ℕ → List ℕ → List ℕ
remainder_from begun [] = begun
remainder_from begun (b ∷ bytes) = if b == 10 then remainder_from [] bytes else remainder_from (begun ++ b ∷ []) bytes

-- the lines of a file, without their ends
abbrev pub lines_in : List ℕ → List (List ℕ)
lines_in file = lines_from [] file

-- the bytes after the last line feed of a file: a line without its end, or nothing
abbrev pub remainder_in : List ℕ → List ℕ
remainder_in file = remainder_from [] file

-- the end of each of these lines, after its line feed, if the first begins here
abbrev pub ends_of : ℕ → List (List ℕ) → List ℕ
ends_of start [] = []
ends_of start (line ∷ lines) = (start + length line + 1) ∷ ends_of (start + length line + 1) lines

-- so many lines at the front of a file, with their ends, if they have one
abbrev pub first_lines : ℕ → List ℕ → List ℕ
first_lines zero file = []
first_lines (suc count) [] = []
first_lines (suc count) (b ∷ bytes) = b ∷ (if b == 10 then first_lines count bytes else first_lines (suc count) bytes)

-- the file begins with this front, byte for byte
abbrev pub BeginsWith : List ℕ → List ℕ → Type 0
BeginsWith front file = take (length front) file ≡ front
