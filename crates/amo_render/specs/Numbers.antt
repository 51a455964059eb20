-- The line of numbers with which a text begins.
use Rattle.std.specs.Prelude.{ℕ, List, [], ◌++◌, ◌==◌, if◌then◌else◌, codes}
use Rattle.std.specs.Fmt.{decimal}
use Rattle.std.specs.List.{flat_map}
use Rattle.amo_params.specs.Givens.{bound}
use Rattle.amo_params.specs.declared.givens.Givens.{Givens}

-- in version 1 nothing, else ` block G blocks n`, since there the givens' jobs are blocks
unfoldable pub block_part : ℕ → ℕ → Givens → List ℕ
block_part version block g = if version == 1 then [] else codes " block " ++ decimal block ++ codes " blocks " ++ decimal g.jobs

-- `jobs N`, the part on blocks, ` workers M beta B`
unfoldable pub numbers_part : ℕ → ℕ → ℕ → Givens → List ℕ
numbers_part version block jobs g =
    codes "jobs " ++ decimal jobs ++ block_part version block g ++ codes " workers " ++ decimal g.workers ++ codes " beta " ++ decimal g.beta

-- these numbers and ` bound L`, and their line
unfoldable pub first_words : ℕ → ℕ → ℕ → Givens → List ℕ
first_words version block jobs g = numbers_part version block jobs g ++ codes " bound " ++ decimal (bound g)

-- the line of these numbers and the bound
unfoldable pub first_line : ℕ → ℕ → ℕ → Givens → List ℕ
first_line version block jobs g = first_words version block jobs g ++ codes "\n"

-- ` J` for each
abbrev pub spaced : List ℕ → List ℕ
spaced js = flat_map (λ j. codes " " ++ decimal j) js
