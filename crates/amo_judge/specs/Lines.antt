-- The lines of a text, and the words of a line.
use Rattle.std.specs.Prelude.{ℕ, suc, ◌-◌, Bool, List, [], ◌∷◌, codes, length, take, slice_index, slice_index_or, ◌==◌, if◌then◌else◌}
use Rattle.std.specs.List.{slice_split}
use Rattle.std.specs.Str.{bytes_eq}

-- the text without the line feed at its end, if it has one there
abbrev pub without_last_feed : List ℕ → List ℕ
without_last_feed text = if slice_index text (length text - 1) == 10 then take (length text - 1) text else text

-- the parts between the line feeds
abbrev pub split_lines : List ℕ → List (List ℕ)
split_lines text = slice_split (λ b. b == 10) text

-- the lines of a text: a line feed stands between each two, and one may end the last
abbrev pub lines_of : List ℕ → List (List ℕ)
lines_of text = split_lines (without_last_feed text)

-- the words of a line, one blank between each two
abbrev pub words_of : List ℕ → List (List ℕ)
words_of line = slice_split (λ b. b == 32) line

-- the word at this place, from 0, or an empty one
abbrev pub word_at : List (List ℕ) → ℕ → List ℕ
word_at words place = slice_index_or words place []

-- the word at this place is this one
abbrev pub says_at : List (List ℕ) → ℕ → List ℕ → Bool
says_at words place text = bytes_eq (word_at words place) text

-- a line on a worker ends the history, as in the report of a replay
abbrev pub ends_history : List ℕ → Bool
ends_history line = bytes_eq (codes "worker ") (take 7 line)

-- how many lines stand before the first that ends the history
abbrev pub told : List (List ℕ) → ℕ
told [] = 0
told (line ∷ lines) = if ends_history line then 0 else suc (told lines)
