-- The jobs of a plan.
use Rattle.std.specs.Prelude.{ℕ, ◌+◌, List, [], ◌∷◌, length, Bool, not, ◌&&◌, ◌||◌, ◌==◌, Option, Some, None, option_map, codes, Result, Ok}
use Rattle.std.specs.List.{list_all}
use Rattle.toml.specs.Data.{Data, Members, as_str, get_member}
use Rattle.amo_plan.specs.declared.fault.PlanFault.{PlanFault}
use Rattle.amo_plan.specs.declared.fault.PlanFault.TheVariants.{UnknownKey, MissingKey, WrongKind, BadName, TwoNames, SumTooLarge}
use Rattle.amo_plan.specs.declared.job.Job.{Job}
use Rattle.amo_plan.specs.declared.limits.TheConstants.{MOST_IN_NAME}
use Rattle.amo_plan.specs.declared.task.Task.{Task}
use Rattle.amo_plan.specs.declared.task.Task.TheVariants.{Say, Add}
use Rattle.amo_plan.specs.Passing.{◌>>=◌, or_fault, unless, capped, each, is_between}
use Rattle.amo_plan.specs.Tree.{Key, has, text_at, is_known, each_key, naturals_in}
use Rattle.amo_plan.specs.Results.{fits}

-- the keys of a job
abbrev pub job_keys : List Key
job_keys = codes "name" ∷ codes "say" ∷ codes "add" ∷ []

-- a text to say, or numbers to add, and not both
abbrev pub task_of : Option Data → Option Data → Option Task
task_of (Some say) None = option_map Say (as_str say)
task_of None (Some add) = option_map Add (naturals_in add)
task_of _ _ = None

-- the j-th job: no other keys, each that is needed, and each of its kind
unfoldable pub job_at : ℕ → Members → Result Job PlanFault
job_at j ms =
    unless (each_key (is_known job_keys) ms) (UnknownKey j)
    (unless (has (codes "name") ms && (has (codes "say") ms || has (codes "add") ms)) (MissingKey j) (do
      name ← or_fault (text_at (codes "name") ms) (WrongKind j)
      task ← or_fault (task_of (get_member (codes "say") ms) (get_member (codes "add") ms)) (WrongKind j)
      Ok (record { name = name; task = task })))

-- the jobs, one after the other
abbrev pub read_jobs : List Members → Result (List Job) PlanFault
read_jobs tables = each job_at 1 tables

-- a letter, a digit, `_`, `-` or `.`
abbrev pub is_name_byte : ℕ → Bool
is_name_byte b = is_between 65 90 b || is_between 97 122 b || is_between 48 57 b || b == 95 || b == 45 || b == 46

-- one to `MOST_IN_NAME` of them
abbrev pub is_name : List ℕ → Bool
is_name name = is_between 1 MOST_IN_NAME (length name) && list_all is_name_byte name

-- the j-th job has a proper name that is not taken, and a task that fits
unfoldable pub fine_job : Bool → ℕ → Job → Result (Unit {0}) PlanFault
fine_job is_taken j job =
    unless (is_name job.name) (BadName j)
    (unless (not is_taken) (TwoNames j)
    (unless (fits job.task) (SumTooLarge j) (Ok tt)))

-- the same of the jobs from the j-th on, after earlier jobs of these names
abbrev pub fine_jobs : List Key → ℕ → List Job → Result (Unit {0}) PlanFault
fine_jobs earlier j [] = Ok tt
fine_jobs earlier j (job ∷ jobs) =
    fine_job (is_known earlier job.name) (capped j) job >>= λ _. fine_jobs (job.name ∷ earlier) (j + 1) jobs
