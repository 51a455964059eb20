-- Blocks one after the other.
use Rattle.std.proofs.Common.{◌≡◌, ℕ, suc, ◌+◌, ◌-◌, ◌<◌, List, [], ◌∷◌, ◌++◌, take, drop, ◌∙◌, arith, append_assoc}
use Rattle.amo_plan.specs.declared.task.Task.{Task}
use Rattle.amo_plan.specs.Blocks.{blocks_from}

-- of the blocks to come, the next has the first tasks
pub blocks_next : (count i g : ℕ) (front all : List (List Task)) (tasks : List Task) → i < count → front ++ blocks_from (count - i) g tasks ≡ all → (front ++ take g tasks ∷ []) ++ blocks_from (count - (i + 1)) g (drop g tasks) ≡ all
blocks_next count i g front all tasks lt so_far =
    let more : count - i ≡ suc (count - (i + 1)) = omega arith in
    append_assoc front (take g tasks ∷ []) (blocks_from (count - (i + 1)) g (drop g tasks)) ∙ (rw more at so_far)
