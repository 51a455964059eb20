-- The outcome of a run of a plan's jobs in threads, and the text of it.
use Rattle.std.proofs.Common.{Vec, Global}
use Rattle.std.specs.Prelude.{◌≡◌, ◌≢◌, ℕ, List, Option, IfSome, Err, map}
use Rattle.std.specs.Result.{IsOkAnd}
use Rattle.std.specs.Io.KnownBytes.{Keeps, Appends}
use Rattle.amo_params.specs.declared.givens.Givens.{Givens}
use Rattle.amo_plan.specs.declared.answer.Answer.{Answer}
use Rattle.amo_plan.specs.declared.fault.PlanFault.TheVariants as fault
use Rattle.amo_plan.specs.declared.plan.Heads.{Heads}
use Rattle.amo_plan.specs.declared.task.Task.{Task}
use Rattle.amo_plan.specs.Blocks.{blocks_of}
use Rattle.amo_plan.specs.Plan.{PlanSeen, plan_of}
use Rattle.amo_plan.specs.Results.{capped_answer}
use Rattle.amo_crew.specs.declared.outcome.End.{End}
use Rattle.amo_crew.specs.declared.outcome.Outcome.{Outcome}
use Rattle.amo_crew.specs.Outcomes.{IsOutcome, AllStarted, SomeRefused}
use Rattle.amo_render.specs.declared.writing.ReplayFault.{ReplayFault}
use Rattle.amo_render.specs.declared.writing.ReplayFault.TheVariants as replay
use Rattle.amo_run_plan.specs.OutcomeTexts.{outcome_of}
use Rattle.amo_io.specs.Streams.{AppendsFront}
use Rattle.amo_run_plan.specs.declared.started.Started.{Started}
use Rattle.amo_run_plan.specs.declared.started.Started.TheVariants.{All, NotAll}

-- the answers of a block are those of its own tasks, one for each, in their order, whoever performs
-- it
abbrev pub AreAnswers : ℕ → ℕ → List Task → Vec Answer Global → Type 0
AreAnswers worker job tasks answers = answers.items ≡ map capped_answer tasks

-- every thread was started, or some could not be
abbrev pub AreStarted : Started → List End → Type 0
AreStarted All ends = AllStarted ends
AreStarted NotAll ends = SomeRefused ends

-- This is the outcome of these blocks, executed in threads, each worker with its budget of steps.
pub record HasComeOf (g : Givens) (blocks : List (List Task)) (budgets : List ℕ) (started : Started) (o : Outcome (List Task) (Vec Answer Global)) : Type 0 where
  pub is : IsOutcome AreAnswers g blocks budgets o
  pub threads : AreStarted started o.ends.items

-- a plan without its tasks
abbrev pub heads_of : PlanSeen → Heads
heads_of p = record {
  version = p.version;
  block = p.block;
  givens = p.givens;
  names = p.names;
  moves = p.moves;
  rounds = p.rounds;
  budgets = p.budgets;
}

-- The text of something that can come of executing the blocks of this plan. Of one plan there can
-- be more than one such text, since the order in which threads take their steps is theirs.
pub record IsRunText (started : Started) (p : PlanSeen) (text : List ℕ) : Type 0 where
  pub outcome : Outcome (List Task) (Vec Answer Global)
  pub has_come : HasComeOf p.givens (blocks_of p.block p.tasks) p.budgets started outcome
  pub text_is : outcome_of (heads_of p) outcome ≡ text

-- The text of a run of the plan of a source with these bytes was written, and nothing else.
abbrev pub WritesRun : Started → Option (List ℕ) → Option (List ℕ) → Option (List ℕ) → Type 0
WritesRun started known old new = IfSome known (λ bytes. IsOkAnd (plan_of bytes) (λ p. (text : List ℕ) × IsRunText started p text × Appends old new text))

-- A beginning of such a text was written, and nothing else.
abbrev pub WritesRunFront : Option (List ℕ) → Option (List ℕ) → Option (List ℕ) → Type 0
WritesRunFront known old new = IfSome known (λ bytes. IsOkAnd (plan_of bytes) (λ p. (started : Started) × ((text : List ℕ) × IsRunText started p text × AppendsFront old new text)))

-- The streams after a fault of the text of a run. Out of memory is never given as a fault of the
-- plan.
abbrev pub RefusesRun : ReplayFault → Option (List ℕ) → Option (List ℕ) → Option (List ℕ) → Type 0
RefusesRun (replay.Plan f) known old new = IfSome known (λ bytes. plan_of bytes ≡ Err f) × (f ≢ fault.NoMemory) × Keeps old new
RefusesRun replay.Read known old new = Keeps old new
RefusesRun replay.Write known old new = WritesRunFront known old new
RefusesRun replay.NoMemory known old new = Keeps old new
