-- The plan of a document.
use Rattle.std.specs.Prelude.{ℕ, List, [], map, length, nat_le, Result, Ok, Err}
use Rattle.std.specs.Int.{div_ceil}
use Rattle.std.specs.Str.{is_utf8}
use Rattle.toml.specs.Data.{Members}
use Rattle.toml.specs.Parse.{parse_document}
use Rattle.amo_params.specs.declared.moves.Move.{Move}
use Rattle.amo_params.specs.declared.givens.Givens.{Givens}
use Rattle.amo_params.specs.declared.givens.GivensFault.{GivensFault}
use Rattle.amo_params.specs.Givens.{givens_of}
use Rattle.amo_plan.specs.declared.fault.PlanFault.{PlanFault}
use Rattle.amo_plan.specs.declared.fault.PlanFault.TheVariants.{NotToml, TooLong, BadGivens}
use Rattle.amo_plan.specs.declared.job.Job.{Job}
use Rattle.amo_plan.specs.declared.limits.TheConstants.{MOST_BYTES}
use Rattle.amo_plan.specs.declared.task.Task.{Task}
use Rattle.amo_plan.specs.Passing.{◌>>=◌, or_fault, unless}
use Rattle.amo_plan.specs.Top.{TopSeen, top_of}
use Rattle.amo_plan.specs.Jobs.{read_jobs, fine_jobs}
use Rattle.amo_plan.specs.Schedule.{read_schedule}
use Rattle.amo_plan.specs.Limits.{budgets_within}

-- what a plan says
pub record PlanSeen : Type 0 where
  -- the version of the format, and how many jobs make a block: 1 in version 1
  pub version : ℕ
  pub block : ℕ
  -- the givens, whose jobs are the blocks
  pub givens : Givens
  -- the names and tasks of the jobs
  pub names : List (List ℕ)
  pub tasks : List Task
  -- the schedule, and the rounds that follow it
  pub moves : List Move
  pub rounds : ℕ
  -- how many steps each worker has
  pub budgets : List ℕ

-- the tree of a text
abbrev pub document : List ℕ → Result Members PlanFault
document bytes = unless (is_utf8 bytes) NotToml (or_fault (parse_document bytes) NotToml)

-- the givens, or their fault as one of the plan
abbrev pub or_bad_givens : Result Givens GivensFault → Result Givens PlanFault
or_bad_givens (Ok givens) = Ok givens
or_bad_givens (Err fault) = Err (BadGivens fault)

-- the plan of these givens and jobs
unfoldable pub plan_with : TopSeen → Givens → List Job → Result PlanSeen PlanFault
plan_with top givens jobs = do
  fine ← fine_jobs [] 1 jobs
  moves ← read_schedule top.form.version top.workers top.more.schedule
  budgets ← budgets_within top.workers top.more.rounds top.more.budgets
  Ok (record {
    version = top.form.version;
    block = top.form.block;
    givens = givens;
    names = map (λ job. job.name) jobs;
    tasks = map (λ job. job.task) jobs;
    moves = moves;
    rounds = top.more.rounds;
    budgets = budgets;
  })

-- the plan of a tree, whose givens are of blocks
unfoldable pub plan_in : Members → Result PlanSeen PlanFault
plan_in doc = do
  top ← top_of doc
  jobs ← read_jobs top.jobs
  givens ← or_bad_givens (givens_of (div_ceil (length jobs) top.form.block) top.workers top.beta)
  plan_with top givens jobs

-- the plan of a text
unfoldable pub plan_of : List ℕ → Result PlanSeen PlanFault
plan_of bytes = unless (nat_le (length bytes) MOST_BYTES) TooLong (document bytes >>= λ doc. plan_in doc)
