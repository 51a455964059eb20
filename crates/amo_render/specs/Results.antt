-- The lines of results.
use Rattle.std.specs.Prelude.{ℕ, ◌+◌, ◌-◌, ◌*◌, List, [], ◌∷◌, ◌++◌, take, drop, min, codes}
use Rattle.std.specs.Fmt.{decimal}
use Rattle.std.specs.List.{flat_map}
use Rattle.amo_kk.specs.Run.{done_jobs}
use Rattle.amo_kk.specs.declared.event.Event.{Event}
use Rattle.amo_plan.specs.declared.task.Task.{Task}
use Rattle.amo_plan.specs.Results.{result_text}
use Rattle.amo_render.specs.Escaped.{escaped}

-- `result J NAME TEXT`; an empty text leaves the space before it
unfoldable pub result_line : ℕ → List ℕ → List ℕ → List ℕ
result_line j name text = codes "result " ++ decimal j ++ codes " " ++ name ++ codes " " ++ escaped text ++ codes "\n"

-- a line for each job, numbered from j
abbrev pub result_lines : ℕ → List (List ℕ) → List Task → List ℕ
result_lines j [] tasks = []
result_lines j (name ∷ names) [] = []
result_lines j (name ∷ names) (task ∷ tasks) = result_line j name (result_text task) ++ result_lines (j + 1) names tasks

-- how many jobs come before block b, whose blocks have so many jobs
abbrev pub jobs_before : ℕ → ℕ → ℕ
jobs_before block b = (b - 1) * block

-- what the jobs of block b have, of a list that has something for each job
abbrev pub in_block : {X : Type 0} → ℕ → ℕ → List X → List X
in_block block b xs = take block (drop (jobs_before block b) xs)

-- the results of the jobs of block b
unfoldable pub block_results : ℕ → List (List ℕ) → List Task → ℕ → List ℕ
block_results block names tasks b = result_lines (jobs_before block b + 1) (in_block block b names) (in_block block b tasks)

-- the results of each done block, in the order of the history
abbrev pub done_results : ℕ → List (List ℕ) → List Task → List Event → List ℕ
done_results block names tasks history = flat_map (block_results block names tasks) (done_jobs history)

-- how many jobs block b has, of so many jobs
abbrev pub jobs_in_block : ℕ → ℕ → ℕ → ℕ
jobs_in_block block jobs b = min block (jobs - jobs_before block b)
