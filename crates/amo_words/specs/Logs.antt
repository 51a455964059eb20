-- The worlds that workers on words lead to: each after a list of turns and leavings, from the
-- opening world. A log is such a list.
use Rattle.std.specs.Prelude.{◌≡◌, ℕ, ◌+◌, ◌*◌, Bool, true, false, ◌||◌, ◌==◌, List, [], ◌∷◌, ◌++◌, count_by}
use Rattle.amo_sets.specs.Sets.{has}
use Rattle.amo_kk.specs.Choice.{first_record}
use Rattle.amo_params.specs.Moves.{worker_of, are_in_range, has_halt}
use Rattle.amo_kk.specs.World.{process, world_of}
use Rattle.amo_kk.specs.Machine.{LocalView}
use Rattle.amo_params.specs.declared.givens.Givens.{Givens}
use Rattle.amo_params.specs.declared.moves.Move.{Move}
use Rattle.amo_kk.specs.declared.model.Process.{Process}
use Rattle.amo_kk.specs.declared.model.World.{World}

-- the local machine of worker p, as it is in this world
abbrev pub machine_in : Givens → World → ℕ → LocalView
machine_in g w p = record { givens = g; number = p; state = (process w p).local }

-- the local machine of worker p after these moves
abbrev pub machine_after : Givens → List Move → ℕ → LocalView
machine_after g log p = machine_in g (world_of g log) p

-- the local machine of worker p before its first step
abbrev pub first_machine : Givens → ℕ → LocalView
first_machine g p = record { givens = g; number = p; state = first_record g p }

-- how many of these moves are of worker p
abbrev pub moves_of : ℕ → List Move → ℕ
moves_of p log = count_by (λ m. worker_of m == p) log

-- Each of these moves is a turn or a leave of one of the workers, and no move is a halt. A worker
-- that is halted on registers takes no further step.
pub record AreOwn (g : Givens) (log : List Move) : Type 0 where
  pub range : are_in_range g log ≡ true
  pub no_stop : has_halt log ≡ false

-- the list begins with the other one
abbrev pub StartsWith : List Move → List Move → Type 0
StartsWith log seen = (rest : List Move) × (log ≡ seen ++ rest)

-- one of these workers has claimed j
abbrev pub is_claimed : List Process → ℕ → Bool
is_claimed [] j = false
is_claimed (a ∷ all) j = has a.local.claimed j || is_claimed all j
