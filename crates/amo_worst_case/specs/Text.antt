-- The text of the plan that has the jobs of another and the worst schedule. Keys stand in the order
-- of the alphabet, as TOML's own writer has them, and texts in the form that it picks.
use Rattle.std.specs.Prelude.{ℕ, List, [], ◌∷◌, ◌++◌, ◌==◌, if◌then◌else◌, codes}
use Rattle.std.specs.Fmt.{decimal}
use Rattle.std.specs.List.{flat_map}
use Rattle.toml_writer.specs.Text.{string_text}
use Rattle.amo_params.specs.declared.givens.Givens.{Givens}
use Rattle.amo_plan.specs.declared.task.Task.{Task}
use Rattle.amo_plan.specs.declared.task.Task.TheVariants.{Say, Add}
use Rattle.amo_plan.specs.Plan.{PlanSeen}
use Rattle.amo_worst_case.specs.Schedule.{worst_schedule}

-- a number after a comma
abbrev pub after_comma : ℕ → List ℕ
after_comma n = codes ", " ++ decimal n

-- numbers with commas between
abbrev pub listed : List ℕ → List ℕ
listed [] = []
listed (n ∷ ns) = decimal n ++ flat_map after_comma ns

-- the lines of a job that says a text, and of one that adds numbers
unfoldable pub say_lines : List ℕ → List ℕ → List ℕ
say_lines name text = codes "\n[[job]]\nname = " ++ (string_text name ++ (codes "\nsay = " ++ (string_text text ++ codes "\n")))

-- the lines of a job that adds numbers
unfoldable pub add_lines : List ℕ → List ℕ → List ℕ
add_lines name numbers = codes "\n[[job]]\nadd = [" ++ (listed numbers ++ (codes "]\nname = " ++ (string_text name ++ codes "\n")))

-- the lines of a job with this name
abbrev pub job_lines : List ℕ → Task → List ℕ
job_lines name (Say text) = say_lines name text
job_lines name (Add numbers) = add_lines name numbers

-- those of each job
abbrev pub all_job_lines : List (List ℕ) → List Task → List ℕ
all_job_lines [] tasks = []
all_job_lines (name ∷ names) [] = []
all_job_lines (name ∷ names) (task ∷ tasks) = job_lines name task ++ all_job_lines names tasks

-- how many jobs make a block, which version 1 doesn't say
unfoldable pub block_line : ℕ → ℕ → List ℕ
block_line version block = if version == 1 then [] else codes "block = " ++ (decimal block ++ codes "\n")

-- the lines above the jobs
unfoldable pub head_lines : ℕ → ℕ → Givens → List ℕ
head_lines version block g =
    codes "beta = " ++ (decimal g.beta ++ (codes "\n" ++ (block_line version block ++ (codes "schedule = " ++ (string_text (worst_schedule g)
    ++ (codes "\nversion = " ++ (decimal version ++ (codes "\nworkers = " ++ (decimal g.workers ++ codes "\n")))))))))

-- the text: rounds and budgets are left out
abbrev pub plan_text : PlanSeen → List ℕ
plan_text p = head_lines p.version p.block p.givens ++ all_job_lines p.names p.tasks
