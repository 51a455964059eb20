-- Facts about the load or store that a worker wants.
use Rattle.std.specs.Prelude.{ℕ, ◌+◌, ◌≤◌, ⊤}
use Rattle.amo_params.specs.Givens.{IsJob, IsOther}
use Rattle.amo_params.specs.declared.givens.Givens.{Givens}
use Rattle.amo_kk.specs.declared.phase.Want.{Want}
use Rattle.amo_kk.specs.declared.phase.Want.TheVariants.{StoreNext, LoadNext, LoadDone, StoreClaim, StoreDone, Nothing}

-- what worker p loads is of another worker, and in its row; what p stores is a job, and so many
-- claims and dones have room
abbrev pub WantFits : Givens → ℕ → Want → Type 0
WantFits g p (StoreNext j) = IsJob g j
WantFits g p (LoadNext q) = IsOther g p q
WantFits g p (LoadDone q k) = IsOther g p q × (1 ≤ k) × (k ≤ g.jobs + 1)
WantFits g p (StoreClaim c j) = IsJob g j × (1 ≤ c) × (c ≤ g.jobs)
WantFits g p (StoreDone k j) = IsJob g j × (1 ≤ k) × (k ≤ g.jobs)
WantFits g p Nothing = ⊤
