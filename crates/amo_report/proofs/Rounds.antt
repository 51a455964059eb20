-- The moves of a plan, one part after the other.
use Rattle.std.proofs.Common.{◌≡◌, ℕ, ◌+◌, true, List, [], ◌∷◌, ◌++◌, refl, sym, ap, ◌∙◌, add-one}
use Rattle.amo_sets.specs.Lists.{table}
use Rattle.amo_params.specs.Moves.{are_in_range}
use Rattle.amo_kk.specs.World.{world_after_moves, round, rounds}
use Rattle.amo_params.specs.declared.givens.Givens.{Givens}
use Rattle.amo_params.specs.declared.moves.Move.{Move}
use Rattle.amo_kk.specs.declared.model.World.{World}
use Rattle.amo_kk.proofs.Moves.{world_after_moves-append}
use Rattle.amo_world.specs.Views.{WorldView}

-- moves that a plan keeps can be run, wherever it hands them
pub range_of : (g h : Givens) (moves handed : List Move) → h ≡ g → handed ≡ moves → are_in_range g moves ≡ true → are_in_range h handed ≡ true
range_of g h moves handed e f within = (λ i. are_in_range (e i) (f i)) ∙ within

-- the world of a view after more moves
pub moves_more : (g : Givens) (w : World) (moves all : List Move) (more : Givens → List Move) (old new : WorldView)
    → old ≡ record { givens = g; world = world_after_moves g w moves }
    → new ≡ record { givens = old.givens; world = world_after_moves old.givens old.world (more old.givens) }
    → all ≡ moves ++ more g
    → new ≡ record { givens = g; world = world_after_moves g w all }
moves_more g w moves all more old new before after parts =
    after
    ∙ ap (λ (v : WorldView). let next : WorldView = record { givens = v.givens; world = world_after_moves v.givens v.world (more v.givens) } in next) before
    ∙ ap (λ (v : World). let next : WorldView = record { givens = g; world = v } in next) (sym (ap (world_after_moves g w) parts ∙ world_after_moves-append g w moves (more g)))

-- one worker more, one round more
pub table_more : {X : Type 0} (f : ℕ → X) (n : ℕ) → table (n + 1) f ≡ table n f ++ f (n + 1) ∷ []
table_more f n = rw add-one refl

pub rounds_more : (workers n : ℕ) → rounds workers (n + 1) ≡ rounds workers n ++ round workers
rounds_more workers n = rw add-one refl
