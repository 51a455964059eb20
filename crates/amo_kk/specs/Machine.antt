-- How contracts see the local machine, and what holds of its fields.
use Rattle.std.specs.Prelude.{◌≡◌, ℕ, ◌≤◌, true, List, [], length, get_or}
use Rattle.amo_sets.specs.Lists.{table}
use Rattle.amo_params.specs.Givens.{AreGivens, IsWorker}
use Rattle.amo_kk.specs.Again.{set_of, are_new}
use Rattle.amo_kk.specs.Knowledge.{KnowledgeView}
use Rattle.amo_kk.specs.Lawful.{IsSoundRecord}
use Rattle.amo_params.specs.declared.givens.Givens.{Givens}
use Rattle.amo_kk.specs.declared.phase.Phase.{Phase}
use Rattle.amo_kk.specs.declared.model.Record.{Record}

-- The givens, the worker's number, and its record.
pub record LocalView : Type 0 where
  pub givens : Givens
  pub number : ℕ
  pub state : Record

-- the record of a machine in this phase, with this knowledge, these lists, and so many steps
abbrev pub record_of : Phase → KnowledgeView → (fronts claims dones : List ℕ) → ℕ → Record
record_of phase k fronts claims dones steps =
    record { phase = phase; known = k.known; tried = k.tried; fronts = fronts; claimed = claims; dones = dones; steps = steps }

-- The record is sound, its sets have the range of the jobs, and its lists have just the room that
-- they may need.
pub record IsHeld (g : Givens) (p : ℕ) (r : Record) (range fronts_room claims_room dones_room : ℕ) : Type 0 where
  pub givens : AreGivens g
  pub worker : IsWorker g p
  pub fit : IsSoundRecord g p r
  -- so the lists are short, and the fronts small
  pub claims_few : length r.claimed ≤ g.jobs
  pub dones_few : length r.dones ≤ g.jobs
  pub front_few : (k : ℕ) → get_or r.fronts k 0 ≤ g.jobs
  pub range_is : range ≡ g.jobs
  pub fronts_room_is : fronts_room ≡ g.workers
  pub claims_room_is : claims_room ≡ g.jobs
  pub dones_room_is : dones_room ≡ g.jobs

-- The beginning of a machine of worker p that restarts: it has done different jobs, has claimed and
-- knows exactly these, and has read no row. Its lists have exactly the room that they may need.
pub record IsTakenUp (g : Givens) (p : ℕ) (k : KnowledgeView) (fronts claims dones : List ℕ) (fronts_room claims_room dones_room : ℕ) : Type 0 where
  pub worker : IsWorker g p
  pub new : are_new g [] dones ≡ true
  pub knows : k ≡ record { range = g.jobs; known = set_of dones; tried = [] }
  pub claims_are : claims ≡ dones
  pub fronts_are : fronts ≡ table g.workers (λ _. 0)
  pub fronts_room_is : fronts_room ≡ g.workers
  pub claims_room_is : claims_room ≡ g.jobs
  pub dones_room_is : dones_room ≡ g.jobs
