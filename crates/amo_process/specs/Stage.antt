-- Within this crate: what a stepped process keeps.
use Rattle.std.specs.Prelude.{◌≡◌, ⊤, ℕ, ◌+◌, ◌≤◌, List, Option, Some, None, length, drop}
use Rattle.amo_params.specs.Givens.{IsWorker}
use Rattle.amo_kk.specs.Choice.{first_record}
use Rattle.amo_params.specs.declared.givens.Givens.{Givens}
use Rattle.amo_process.specs.Heard.{rest_of, standing_of}
use Rattle.amo_process.specs.declared.standing.Standing.{Standing}
use Rattle.amo_process.specs.declared.standing.Standing.TheVariants.{Going}
use Rattle.amo_process.specs.declared.stage.Stage.{Stage}
use Rattle.amo_process.specs.declared.stage.Stage.TheVariants.{Loading, Stepping, Refused}

-- where worker p stands in this stage, with these own words loaded
abbrev pub standing_in_stage : Givens → ℕ → List ℕ → Stage → Option Standing
standing_in_stage g p own (Loading l) = standing_of g p own
standing_in_stage g p own (Stepping l fresh) = Some (Going l fresh)
standing_in_stage g p own Refused = None

-- The own registers are not complete: the row has no 0 yet, and may go on.
pub record IsLoading (g : Givens) (own : List ℕ) : Type 0 where
  pub row : rest_of (drop 2 own) ≡ None
  pub few : length own ≤ g.jobs + 2

-- the stage may be that of worker p with these own words loaded: until they are all there its
-- machine is a new one
abbrev pub StageFits : Givens → ℕ → List ℕ → Stage → Type 0
StageFits g p own (Loading l) = (l ≡ record { givens = g; number = p; state = first_record g p }) × IsLoading g own
StageFits g p own (Stepping l fresh) = (l.givens ≡ g) × (l.number ≡ p)
StageFits g p own Refused = ⊤

-- The facts about a process of worker p: it has room for all own registers, the last 0 of the row
-- among them.
pub record IsHeld (g : Givens) (p : ℕ) (own : List ℕ) (room : ℕ) (stage : Stage) : Type 0 where
  pub worker : IsWorker g p
  pub room_is : room ≡ g.jobs + 3
  pub fits : StageFits g p own stage
