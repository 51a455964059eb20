-- The schedule whose moves are the worst.
use Rattle.std.specs.Prelude.{ℕ, zero, suc, ◌+◌, ◌-◌, List, [], ◌++◌, nat_lt, if◌then◌else◌, codes}
use Rattle.std.specs.Fmt.{decimal}
use Rattle.amo_params.specs.declared.givens.Givens.{Givens}
use Rattle.amo_bounds.specs.Worst.{lone_turns}

-- for each of the first k others of worker 1 a turn and a stop, as `2 x2 `
abbrev pub stuck_words : ℕ → List ℕ
stuck_words zero = []
stuck_words (suc k) = stuck_words k ++ (decimal (k + 2) ++ (codes " x" ++ (decimal (k + 2) ++ codes " ")))

-- and then the turns of worker 1, as `1*14`; no words if all are over from birth
unfoldable pub worst_schedule : Givens → List ℕ
worst_schedule g = if nat_lt g.jobs g.beta then [] else stuck_words (g.workers - 1) ++ (codes "1*" ++ decimal (lone_turns g))
