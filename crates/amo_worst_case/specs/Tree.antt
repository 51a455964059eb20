-- The tree that the text of the plan stands for.
use Rattle.std.specs.Prelude.{ℕ, ◌^◌, pos, List, [], ◌∷◌, Bool, true, false, nat_lt, codes}
use Rattle.std.specs.List.{list_all}
use Rattle.toml.specs.Data.{string, integer, array, table, Items, no_items, item, Members, no_members, member}
use Rattle.amo_params.specs.declared.givens.Givens.{Givens}
use Rattle.amo_plan.specs.declared.task.Task.{Task}
use Rattle.amo_plan.specs.declared.task.Task.TheVariants.{Say, Add}
use Rattle.amo_plan.specs.Plan.{PlanSeen}
use Rattle.amo_worst_case.specs.Schedule.{worst_schedule}

-- numbers, as the items of an array
abbrev pub number_items : List ℕ → Items
number_items [] = no_items
number_items (n ∷ ns) = item (integer (pos n)) (number_items ns)

-- a job: its name, and a text to say or numbers to add
abbrev pub job_tree : List ℕ → Task → Members
job_tree name (Say text) = member (codes "name") (string name) (member (codes "say") (string text) no_members)
job_tree name (Add numbers) = member (codes "add") (array (number_items numbers)) (member (codes "name") (string name) no_members)

-- the jobs, as the items of an array
abbrev pub job_items : List (List ℕ) → List Task → Items
job_items [] tasks = no_items
job_items (name ∷ names) [] = no_items
job_items (name ∷ names) (task ∷ tasks) = item (table (job_tree name task)) (job_items names tasks)

-- the jobs, if there are some, before other keys
abbrev pub with_jobs : List (List ℕ) → List Task → Members → Members
with_jobs [] tasks ms = ms
with_jobs (name ∷ names) [] ms = ms
with_jobs (name ∷ names) (task ∷ tasks) ms = member (codes "job") (array (item (table (job_tree name task)) (job_items names tasks))) ms

-- the block, if it is given
abbrev pub with_block : Bool → ℕ → Members → Members
with_block true block ms = ms
with_block false block ms = member (codes "block") (integer (pos block)) ms

-- the schedule, the version and the workers
abbrev pub last_keys : ℕ → Givens → Members
last_keys version g =
    member (codes "schedule") (string (worst_schedule g)) (member (codes "version") (integer (pos version)) (member (codes "workers") (integer (pos g.workers)) no_members))

-- the tree of the plan, without the block if the test is true
abbrev pub tree_of : Bool → PlanSeen → Members
tree_of left_out p = member (codes "beta") (integer (pos p.givens.beta)) (with_block left_out p.block (with_jobs p.names p.tasks (last_keys p.version p.givens)))

-- the numbers of a task are integers of TOML, as those of each plan that was read are
abbrev pub are_integers : Task → Bool
are_integers (Say text) = true
are_integers (Add numbers) = list_all (λ n. nat_lt n (2 ^ 63)) numbers
