-- Moves after which no more jobs are done than the fewest.
use Rattle.std.specs.Prelude.{ℕ, zero, suc, ◌+◌, ◌-◌, ◌*◌, List, [], ◌∷◌, ◌++◌, replicate, nat_lt, if◌then◌else◌}
use Rattle.amo_params.specs.declared.givens.Givens.{Givens}
use Rattle.amo_params.specs.declared.moves.Move.{Move}
use Rattle.amo_params.specs.declared.moves.Move.TheVariants.{Turn, Halt}
use Rattle.amo_bounds.specs.Fewest.{fewest}

-- each of the first k others of worker 1 announces its first choice, and is halted
abbrev pub stuck_moves : ℕ → List Move
stuck_moves zero = []
stuck_moves (suc k) = stuck_moves k ++ Turn (k + 2) ∷ Halt (k + 2) ∷ []

-- how many turns worker 1 then takes until it ends: for each of the fewest jobs it announces, reads
-- the announcements and the rows of m - 1 others, claims and performs
abbrev pub lone_turns : Givens → ℕ
lone_turns g = fewest g * (2 * g.workers + 1)

-- all others announce their first choices and are halted, and worker 1 goes on alone; no move if
-- all are over from birth
abbrev pub worst_moves : Givens → List Move
worst_moves g = if nat_lt g.jobs g.beta then [] else stuck_moves (g.workers - 1) ++ replicate (lone_turns g) (Turn 1)
