-- The text for a plan.
use Rattle.std.specs.Prelude.{ℕ, ◌≤◌, List, ◌++◌, length, replicate, nat_lt, if◌then◌else◌, codes}
use Rattle.std.specs.Fmt.{decimal}
use Rattle.amo_plan.specs.declared.limits.TheConstants.{MOST_BYTES, MOST_MOVES, USUAL_BUDGET}
use Rattle.amo_plan.specs.Plan.{PlanSeen}
use Rattle.amo_bounds.specs.Worst.{worst_moves}
use Rattle.amo_worst_case.specs.Text.{plan_text}

-- the text if the schedule would have so many moves, which are too many
unfoldable pub too_many_moves : ℕ → List ℕ
too_many_moves moves = codes "refused\nthe schedule would have " ++ (decimal moves ++ (codes " moves, and a plan has at most " ++ (decimal MOST_MOVES ++ codes "\n")))

-- and the text if it, with so many moves, would have so many bytes, which are too many
unfoldable pub too_many_bytes : ℕ → ℕ → List ℕ
too_many_bytes moves bytes =
    codes "refused\nthe text would have " ++ (decimal bytes ++ (codes " bytes, with " ++ (decimal moves ++ (codes " moves, and a plan has at most " ++ (decimal MOST_BYTES ++ codes "\n")))))

-- the text of the plan with the worst schedule, if it is no larger than a plan may be
abbrev pub worst_of : PlanSeen → List ℕ
worst_of p =
    if nat_lt MOST_MOVES (length (worst_moves p.givens))
    then too_many_moves (length (worst_moves p.givens))
    else (if nat_lt MOST_BYTES (length (plan_text p)) then too_many_bytes (length (worst_moves p.givens)) (length (plan_text p)) else plan_text p)

-- the plan that this text is of: the same jobs, workers and threshold, with the worst moves, and no
-- rounds; its budgets, which a run alone has, are those of a plan that names none
abbrev pub worst_plan : PlanSeen → PlanSeen
worst_plan p = record p { moves = worst_moves p.givens; rounds = 0; budgets = replicate p.givens.workers USUAL_BUDGET }

-- its schedule and its text are no larger than a plan may have them
pub record IsSmall (p : PlanSeen) : Type 0 where
  pub short : length (worst_moves p.givens) ≤ MOST_MOVES
  pub brief : length (plan_text p) ≤ MOST_BYTES
