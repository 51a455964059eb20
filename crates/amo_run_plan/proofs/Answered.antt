-- The outputs of a plan's blocks fit the plan.
use Rattle.std.proofs.Common.{Vec, Global, ◌≡◌, ℕ, zero, suc, List, length, drop, refl, sym, ap, ◌∙◌, subst}
use Rattle.std.specs.Int.{div_ceil}
use Rattle.amo_plan.specs.declared.answer.Answer.{Answer}
use Rattle.amo_plan.specs.declared.task.Task.{Task}
use Rattle.amo_plan.specs.Blocks.{blocks_from, blocks_of}
use Rattle.amo_plan.specs.Keeps.{Keeps}
use Rattle.amo_plan.specs.Plan.{PlanSeen}
use Rattle.amo_crew.specs.declared.outcome.Outcome.{Outcome}
use Rattle.amo_crew.specs.Fitting.{FitsGivens}
use Rattle.amo_run_plan.specs.OutcomeTexts.{FitsHeads, outcome_of}
use Rattle.amo_run_plan.specs.declared.started.Started.{Started}
use Rattle.amo_run_plan.specs.Runs.{HasComeOf, IsRunText, heads_of}

-- there are as many blocks as were asked for
blocks_counted : (count g : ℕ) (tasks : List Task) → length (blocks_from count g tasks) ≡ count
blocks_counted zero g tasks = refl
blocks_counted (suc count) g tasks = ap suc (blocks_counted count g (drop g tasks))

module _ (p : PlanSeen) (tasks : List Task) (blocks : List (List Task)) (same : tasks ≡ p.tasks) (are : blocks ≡ blocks_of p.block tasks) where
  are_of_plan : blocks ≡ blocks_of p.block p.tasks
  are_of_plan = are ∙ ap (blocks_of p.block) same

  -- there are as many blocks as the givens of the plan have jobs
  pub blocks_are_jobs : Keeps p → length blocks ≡ p.givens.jobs
  blocks_are_jobs kept =
      ap length are_of_plan ∙ blocks_counted (div_ceil (length p.tasks) p.block) p.block p.tasks ∙ ap (λ (n : ℕ). div_ceil n p.block) kept.tasked ∙ kept.blocks

  module _ (started : Started) (o : Outcome (List Task) (Vec Answer Global)) (come : HasComeOf p.givens blocks p.budgets started o) where
    -- what came of the plan's blocks is something that comes of the plan, and its text one of a run of the plan
    pub is_run_text : (text : List ℕ) → text ≡ outcome_of (heads_of p) o → IsRunText started p text
    is_run_text text is = record {
      outcome = o;
      has_come = subst (λ (bs : List (List Task)). HasComeOf p.givens bs p.budgets started o) are_of_plan come;
      text_is = sym is;
    }

-- an outcome of the plan's givens fits the heads of the plan
pub fits_heads : (p : PlanSeen) (o : Outcome (List Task) (Vec Answer Global)) → Keeps p → FitsGivens p.givens o → FitsHeads (heads_of p) o
fits_heads p o kept fits = record {
  form = kept.form;
  blocks = kept.blocks;
  claims = fits.claims;
  dones = fits.dones;
  ends = fits.ends;
}
