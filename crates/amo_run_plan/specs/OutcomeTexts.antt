-- The text of what came of a run.
use Rattle.std.specs.Prelude.{◌≡◌, ℕ, true, List, ◌++◌, length}
use Rattle.std.specs.Int.{div_ceil}
use Rattle.std.proofs.Common.{Vec, Global}
use Rattle.amo_plan.specs.Keeps.{is_form}
use Rattle.amo_plan.specs.declared.answer.Answer.{Answer}
use Rattle.amo_plan.specs.declared.plan.Heads.{Heads}
use Rattle.amo_plan.specs.declared.task.Task.{Task}
use Rattle.amo_crew.specs.declared.outcome.End.{End}
use Rattle.amo_crew.specs.declared.outcome.Outcome.{Outcome}
use Rattle.amo_render.specs.Numbers.{first_line}
use Rattle.amo_render.specs.Tallies.{performed_line}
use Rattle.amo_run_plan.specs.Became.{Fate, listed, fate_of, done_blocks}
use Rattle.amo_run_plan.specs.OutcomeLines.{end_lines, job_lines}

-- what came of a run of blocks
abbrev pub BlocksOutcome : Type 0
BlocksOutcome = Outcome (List Task) (Vec Answer Global)

-- the first line, a line for each worker, a line for each job by what became of its block, and how
-- much was performed
unfoldable pub run_lines : Heads → List End → List (List ℕ) → List (List ℕ) → (ℕ → Fate) → List ℕ
run_lines h ends claims dones fates =
    first_line h.version h.block (length h.names) h.givens
    ++ end_lines 1 ends claims dones
    ++ job_lines fates h.block 1 h.names
    ++ performed_line h.version h.block (length h.names) (done_blocks fates h.givens.jobs)

-- what became of each block of an outcome
abbrev pub fates_of : BlocksOutcome → ℕ → Fate
fates_of o b = fate_of (listed o.settlement.claims.items) (listed o.settlement.dones.items) o.outputs.items b

-- the text of what came of a run of a plan with these heads
abbrev pub outcome_of : Heads → BlocksOutcome → List ℕ
outcome_of h o = run_lines h o.ends.items (listed o.settlement.claims.items) (listed o.settlement.dones.items) (fates_of o)

-- The outcome has lists and ends for each worker of a plan with these heads.
pub record FitsHeads (h : Heads) (o : BlocksOutcome) : Type 0 where
  -- a version, with blocks as it has them
  pub form : is_form h.version h.block ≡ true
  -- the givens are of as many jobs as the names make blocks
  pub blocks : div_ceil (length h.names) h.block ≡ h.givens.jobs
  pub claims : length o.settlement.claims.items ≡ h.givens.workers
  pub dones : length o.settlement.dones.items ≡ h.givens.workers
  pub ends : length o.ends.items ≡ h.givens.workers
