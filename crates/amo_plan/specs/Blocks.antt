-- Tasks in blocks.
use Rattle.std.specs.Prelude.{ℕ, zero, suc, List, [], ◌∷◌, length, take, drop}
use Rattle.std.specs.Int.{div_ceil}
use Rattle.amo_plan.specs.declared.task.Task.{Task}

-- so many blocks, one after the other: the first g tasks, and the blocks of the others
abbrev pub blocks_from : ℕ → ℕ → List Task → List (List Task)
blocks_from zero g tasks = []
blocks_from (suc count) g tasks = take g tasks ∷ blocks_from count g (drop g tasks)

-- as many blocks of g tasks as hold them all
abbrev pub blocks_of : ℕ → List Task → List (List Task)
blocks_of g tasks = blocks_from (div_ceil (length tasks) g) g tasks
