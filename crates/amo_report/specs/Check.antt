-- The text of a check.
use Rattle.std.specs.Prelude.{ℕ, List, ◌++◌, length, codes}
use Rattle.std.specs.Fmt.{decimal}
use Rattle.amo_params.specs.declared.givens.Givens.{Givens}
use Rattle.amo_plan.specs.Plan.{PlanSeen}
use Rattle.amo_render.specs.Numbers.{numbers_part}

-- `ok`, the numbers, ` moves K rounds R`
unfoldable pub check_line : ℕ → ℕ → ℕ → Givens → ℕ → ℕ → List ℕ
check_line version block jobs g moves rounds =
    codes "ok " ++ numbers_part version block jobs g ++ codes " moves " ++ decimal moves ++ codes " rounds " ++ decimal rounds ++ codes "\n"

-- the check text of a plan; its moves are those of the schedule, without the rounds
abbrev pub check_of : PlanSeen → List ℕ
check_of p = check_line p.version p.block (length p.names) p.givens (length p.moves) p.rounds
