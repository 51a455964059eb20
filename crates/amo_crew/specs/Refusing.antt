-- The refusals of a run.
use Rattle.std.specs.Prelude.{◌≡◌, ◌≢◌, ℕ, Bool, true, false, List, length}
use Rattle.std.specs.List.{list_any}
use Rattle.amo_params.specs.declared.givens.Givens.{Givens}
use Rattle.amo_crew.specs.declared.outcome.End.{End}
use Rattle.amo_crew.specs.declared.outcome.End.TheVariants.{NotStarted}
use Rattle.amo_crew.specs.declared.fault.ExecFault.{ExecFault}
use Rattle.amo_crew.specs.declared.fault.ExecFault.TheVariants.{WrongCount, NoMemory, ThreadRefused, Unsettled}
use Rattle.amo_crew.specs.Outcomes.{IsOutcome, SomeRefused}
use Rattle.amo_crew.specs.Unsettling.{UnsettledView, IsUnsettled, IsSettledOf}

-- its thread could not be started
abbrev pub is_refused : End → Bool
is_refused NotStarted = true
is_refused end = false

-- so it is with one of these
abbrev pub any_refused : List End → Bool
any_refused ends = list_any is_refused ends

-- what was left is settled, and a thread was refused; or it is still what it was
abbrev pub Concludes : {P Out : Type 0} → UnsettledView P Out → ExecFault P Out → Type 0
Concludes u (WrongCount v) = ⊥
Concludes u (NoMemory v) = ⊥
Concludes u (ThreadRefused o) = IsSettledOf u o × SomeRefused o.ends.items
Concludes u (Unsettled rest) = rest ≡ u

-- what `execute` refuses, and what it gives back
abbrev pub Refuses : {P Out : Type 0} → (ℕ → ℕ → P → Out → Type 0) → Givens → List P → List ℕ → ExecFault P Out → Type 0
Refuses related g payloads budgets (WrongCount v) = (v.items ≡ payloads) × (length payloads ≢ g.jobs)
Refuses related g payloads budgets (NoMemory v) = (v.items ≡ payloads) × (length payloads ≡ g.jobs)
Refuses related g payloads budgets (ThreadRefused o) = IsOutcome related g payloads budgets o × SomeRefused o.ends.items
Refuses related g payloads budgets (Unsettled rest) = IsUnsettled related g payloads budgets rest
