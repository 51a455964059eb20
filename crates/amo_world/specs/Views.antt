-- How contracts see a world; within this crate, `StateView` and `AreSized`, how they see a state of
-- the judge.
use Rattle.std.specs.Prelude.{◌≡◌, ℕ}
use Rattle.amo_params.specs.declared.givens.Givens.{Givens}
use Rattle.amo_kk.specs.declared.model.Object.{Object}
use Rattle.amo_kk.specs.declared.model.World.{World}

-- all workers with the history
pub record WorldView : Type 0 where
  pub givens : Givens
  pub world : World

-- a state of the sequential object
pub record StateView : Type 0 where
  pub givens : Givens
  pub object : Object

-- the lists of a state have a place for each job, or for each worker
pub record AreSized (g : Givens) (unclaimed in_hand gone : ℕ) : Type 0 where
  pub jobs : unclaimed ≡ g.jobs
  pub hands : in_hand ≡ g.workers
  pub workers : gone ≡ g.workers
