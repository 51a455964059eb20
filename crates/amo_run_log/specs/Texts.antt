-- Texts of several lines.
use Rattle.std.specs.Prelude.{ℕ, List, [], ◌∷◌, ◌++◌}

-- the texts, each followed by a line feed
abbrev pub ended : List (List ℕ) → List ℕ
ended [] = []
ended (text ∷ texts) = text ++ 10 ∷ ended texts
