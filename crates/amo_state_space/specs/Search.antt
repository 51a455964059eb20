-- Within this crate: a search, and the moves that it makes.
use Rattle.std.specs.Prelude.{◌≡◌, ℕ, ◌+◌, Bool, true, false, not, ◌&&◌, List, nat_lt, Option, Some, None}
use Rattle.amo_params.specs.Givens.{IsWorker}
use Rattle.amo_params.specs.Moves.{are_in_range}
use Rattle.amo_kk.specs.World.{process, world_of}
use Rattle.amo_params.specs.declared.givens.Givens.{Givens}
use Rattle.amo_params.specs.declared.moves.Move.{Move}
use Rattle.amo_params.specs.declared.moves.Move.TheVariants.{Turn, Halt, Leave}
use Rattle.amo_kk.specs.declared.model.World.{World}
use Rattle.amo_world.specs.Views.{WorldView}

-- the moves that were made so far
pub record SearchView : Type 0 where
  pub givens : Givens
  pub moves : List Move

-- the world is the one that the moves lead to, which are of workers that exist
pub record IsSearch (w : WorldView) (moves : List Move) : Type 0 where
  pub led : w.world ≡ world_of w.givens moves
  pub in_range : are_in_range w.givens moves ≡ true

-- the move is a turn of a worker that isn't gone, or its stop, where fewer were stopped than all
-- others are
abbrev pub is_allowed : Givens → World → ℕ → Move → Bool
is_allowed g w stops (Turn p) = not (process w p).gone
is_allowed g w stops (Halt p) = not (process w p).gone && nat_lt (stops + 1) g.workers
is_allowed g w stops (Leave p) = false

-- it is a worker that isn't gone; or all workers are gone
abbrev pub IsNext : Givens → World → Option ℕ → Type 0
IsNext g w (Some p) = IsWorker g p × ((process w p).gone ≡ false)
IsNext g w None = (p : ℕ) → IsWorker g p → (process w p).gone ≡ true
