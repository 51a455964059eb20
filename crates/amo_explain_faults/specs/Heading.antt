-- With which line the explanation of a text begins.
use Rattle.std.specs.Prelude.{◌≡◌, ℕ, List, ◌++◌, Result, Ok, Err, codes}
use Rattle.amo_plan.specs.declared.fault.PlanFault.{PlanFault}
use Rattle.amo_plan.specs.Plan.{PlanSeen}
use Rattle.amo_render.specs.FaultTexts.{fault_line}

-- `taken`, or the line of the fault
abbrev pub explanation_head : Result PlanSeen PlanFault → List ℕ
explanation_head (Ok plan) = codes "taken\n"
explanation_head (Err fault) = fault_line fault

-- the text begins with these bytes
abbrev pub BeginsWith : List ℕ → List ℕ → Type 0
BeginsWith head text = (rest : List ℕ) × (text ≡ head ++ rest)
