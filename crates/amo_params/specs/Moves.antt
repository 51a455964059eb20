-- The moves of a schedule: whose they are, and which are stops.
use Rattle.std.specs.Prelude.{ℕ, Bool, true, false, ◌&&◌, ◌||◌, List, [], ◌∷◌}
use Rattle.amo_params.specs.Givens.{is_within}
use Rattle.amo_params.specs.declared.givens.Givens.{Givens}
use Rattle.amo_params.specs.declared.moves.Move.{Move}
use Rattle.amo_params.specs.declared.moves.Move.TheVariants.{Turn, Halt, Leave}

-- the worker of a move
abbrev pub worker_of : Move → ℕ
worker_of (Turn p) = p
worker_of (Halt p) = p
worker_of (Leave p) = p

-- the move is a stop
abbrev pub is_halt : Move → Bool
is_halt (Halt p) = true
is_halt m = false

-- one of these moves is a stop
abbrev pub has_halt : List Move → Bool
has_halt [] = false
has_halt (m ∷ ms) = is_halt m || has_halt ms

-- all moves are of workers that exist
abbrev pub are_in_range : Givens → List Move → Bool
are_in_range g [] = true
are_in_range g (m ∷ ms) = is_within g.workers (worker_of m) && are_in_range g ms
