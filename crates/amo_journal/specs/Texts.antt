-- The texts of a file. A block is an open gate, `+`, then a text, then a line feed. A closed gate,
-- `-`, follows the last block.
use Rattle.std.specs.Prelude.{◌≢◌, ℕ, List, [], ◌∷◌, ◌++◌, Option, Some, None, if◌then◌else◌, ◌==◌}
use Rattle.std.specs.List.{AllByRecursion}

-- no line feed
abbrev pub IsOneLine : List ℕ → Type 0
IsOneLine text = AllByRecursion (λ b. b ≢ 10) text

-- each of them so
abbrev pub AreOneLine : List (List ℕ) → Type 0
AreOneLine texts = AllByRecursion IsOneLine texts

-- the texts from here on; inside a block, with what was read of its text
abbrev pub texts_from : List ℕ → Option (List ℕ) → List (List ℕ)
texts_from [] at = []
texts_from (b ∷ bs) None = if b == 43 then texts_from bs (Some []) else []
texts_from (b ∷ bs) (Some text) = if b == 10 then text ∷ texts_from bs None else texts_from bs (Some (text ++ b ∷ []))

-- the texts of the blocks up to the first that is closed or cut short
abbrev pub texts_in : List ℕ → List (List ℕ)
texts_in file = texts_from file None

-- open blocks of these texts
abbrev pub blocks : List (List ℕ) → List ℕ
blocks [] = []
blocks (text ∷ texts) = 43 ∷ text ++ 10 ∷ blocks texts

-- open blocks, and then a closed gate
abbrev pub at_rest : List (List ℕ) → List ℕ
at_rest texts = blocks texts ++ 45 ∷ []
