-- The facts that hold of every outcome.
use Rattle.std.specs.Prelude.{◌≡◌, ℕ, List, length, All}
use Rattle.std.proofs.Common.{Vec, Global}
use Rattle.amo_params.specs.Givens.{IsJob}
use Rattle.amo_params.specs.declared.givens.Givens.{Givens}
use Rattle.amo_crew.specs.declared.outcome.Outcome.{Outcome}

-- each list has numbers of jobs alone
abbrev pub HaveJobs : Givens → List (Vec ℕ Global) → Type 0
HaveJobs g lists = All (λ (v : Vec ℕ Global). All (IsJob g) v.items) lists

-- The outcome has lists and ends for each worker, and whatever its lists and its outputs name is a
-- job.
pub record FitsGivens {P Out : Type 0} (g : Givens) (o : Outcome P Out) : Type 0 where
  pub claims : length o.settlement.claims.items ≡ g.workers
  pub dones : length o.settlement.dones.items ≡ g.workers
  pub ends : length o.ends.items ≡ g.workers
  pub claimed : HaveJobs g o.settlement.claims.items
  pub done : HaveJobs g o.settlement.dones.items
  pub outputs : All (λ x. IsJob g x.job) o.outputs.items
