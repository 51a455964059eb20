-- The rules of each plan.
use Rattle.std.specs.Prelude.{◌≡◌, ◌≢◌, ◌≤◌, ℕ, List, length, Bool, true, ◌&&◌, ◌||◌, ◌==◌}
use Rattle.std.specs.Int.{div_ceil}
use Rattle.std.specs.List.{list_all, AllPairs}
use Rattle.amo_params.specs.Moves.{are_in_range}
use Rattle.amo_plan.specs.declared.limits.TheConstants.{MOST_MOVES, MOST_ROUNDS, MOST_IN_BLOCK}
use Rattle.amo_plan.specs.declared.task.Task.{Task}
use Rattle.amo_plan.specs.Jobs.{is_name}
use Rattle.amo_plan.specs.Limits.{is_small}
use Rattle.amo_plan.specs.Plan.{PlanSeen}
use Rattle.amo_plan.specs.Results.{fits}
use Rattle.amo_plan.specs.Passing.{is_between}

-- version 1, whose blocks are single jobs, or version 2 with blocks of up to `MOST_IN_BLOCK`
abbrev pub is_form : ℕ → ℕ → Bool
is_form version block = (version == 1 && block == 1) || (version == 2 && is_between 1 MOST_IN_BLOCK block)

-- each sum has at most 64 bits
abbrev pub all_fit : List Task → Bool
all_fit tasks = list_all fits tasks

-- what a plan keeps
pub record Keeps (p : PlanSeen) : Type 0 where
  -- a version, with blocks as it has them
  pub form : is_form p.version p.block ≡ true
  -- the givens are of as many jobs as the jobs of the plan make blocks
  pub blocks : div_ceil (length p.names) p.block ≡ p.givens.jobs
  -- each job has a task
  pub tasked : length p.tasks ≡ length p.names
  -- each name is a proper one
  pub named : list_all is_name p.names ≡ true
  -- no two names are one
  pub distinct : AllPairs (λ x y. x ≢ y) p.names
  -- each sum has at most 64 bits
  pub fitting : all_fit p.tasks ≡ true
  -- the moves are of workers that exist, and not too many
  pub within : are_in_range p.givens p.moves ≡ true
  pub short : length p.moves ≤ MOST_MOVES
  -- the rounds are not too many
  pub rounded : p.rounds ≤ MOST_ROUNDS
  -- each worker has a budget, and none is too large
  pub budgeted : length p.budgets ≡ p.givens.workers
  pub small : list_all is_small p.budgets ≡ true
