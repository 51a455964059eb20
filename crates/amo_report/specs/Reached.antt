-- Within this crate: which worlds are reached by how many moves.
use Rattle.std.specs.Prelude.{◌≡◌, ℕ, ◌+◌, ◌≤◌, List, length}
use Rattle.amo_kk.specs.World.{world_of}
use Rattle.amo_params.specs.declared.moves.Move.{Move}
use Rattle.amo_params.specs.declared.givens.Givens.{Givens}
use Rattle.amo_kk.specs.declared.model.World.{World}
use Rattle.amo_report.specs.declared.stops.TheConstants.{MOST_STOPS}

-- the most moves after which a worker is run alone to a claim or its end: a count of 64 bits has
-- room for many more turns
abbrev pub most_before_a_claim : ℕ
most_before_a_claim = 1000000000

-- the most after which one is run until it is gone
abbrev pub most_before_an_end : ℕ
most_before_an_end = 900000000

-- the most after which each is: those of a plan whose stops are shown, and the stop
abbrev pub most_before_all_ends : ℕ
most_before_all_ends = MOST_STOPS + 1

-- The world is reached from the opening one by at most so many moves.
pub record IsReached (g : Givens) (most : ℕ) (w : World) : Type 0 where
  pub moves : List Move
  pub few : length moves ≤ most
  pub leads : world_of g moves ≡ w
