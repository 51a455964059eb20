-- Runs in which nobody stops, from the opening world until all have ended.
use Rattle.std.specs.Prelude.{◌≡◌, true, List, [], length}
use Rattle.amo_params.specs.Moves.{are_in_range}
use Rattle.amo_kk.specs.World.{opening_world}
use Rattle.amo_params.specs.declared.givens.Givens.{Givens}
use Rattle.amo_params.specs.declared.moves.Move.{Move}
use Rattle.amo_bounds.specs.Fewest.{ComesToEnd, stopped}
use Rattle.amo_bounds.specs.Rest.{turns_taken}

-- The moves are turns, each of a worker that there is and that isn't gone by then, and after them
-- all workers are gone.
pub record IsWholeRun (g : Givens) (ms : List Move) : Type 0 where
  pub comes_to_end : ComesToEnd g ms
  pub nobody_stops : stopped ms ≡ []
  pub in_range : are_in_range g ms ≡ true
  pub all_taken : turns_taken g (opening_world g) ms ≡ length ms
