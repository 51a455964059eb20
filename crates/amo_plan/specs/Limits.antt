-- The limits of a plan, and the values that stand for absent keys.
use Rattle.std.specs.Prelude.{ℕ, List, Bool, nat_le, Option, Some, None, Result, Ok, replicate}
use Rattle.std.specs.List.{list_all}
use Rattle.amo_plan.specs.declared.fault.PlanFault.{PlanFault}
use Rattle.amo_plan.specs.declared.fault.PlanFault.TheVariants.{TooLong}
use Rattle.amo_plan.specs.declared.limits.TheConstants.{MOST_ROUNDS, USUAL_BUDGET}
use Rattle.amo_plan.specs.Passing.{unless}
use Rattle.amo_params.specs.declared.limits.TheConstants.{MAX_STEPS}

-- no more steps than a worker may have
abbrev pub is_small : ℕ → Bool
is_small budget = nat_le budget MAX_STEPS

-- the budgets of m workers: the usual number of steps each if none are named
abbrev pub small_budgets : ℕ → Option (List ℕ) → Result (List ℕ) PlanFault
small_budgets m None = Ok (replicate m USUAL_BUDGET)
small_budgets m (Some budgets) = unless (list_all is_small budgets) TooLong (Ok budgets)

-- the budgets of m workers, if the passes are not too many
unfoldable pub budgets_within : ℕ → ℕ → Option (List ℕ) → Result (List ℕ) PlanFault
budgets_within m rounds budgets = unless (nat_le rounds MOST_ROUNDS) TooLong (small_budgets m budgets)
