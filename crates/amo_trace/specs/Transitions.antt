-- The transitions of a plan: what each of its moves does, until all workers are gone.
use Rattle.std.specs.Prelude.{ℕ, zero, suc, ◌+◌, Bool, true, false, ◌&&◌, List, [], ◌∷◌, ◌==◌, if◌then◌else◌}
use Rattle.amo_kk.specs.Record.{can_leave}
use Rattle.amo_kk.specs.Step.{want, is_load}
use Rattle.amo_params.specs.Moves.{worker_of}
use Rattle.amo_kk.specs.World.{process, loaded_value, opening_world, world_after_move}
use Rattle.amo_params.specs.declared.moves.Move.{Move}
use Rattle.amo_params.specs.declared.moves.Move.TheVariants.{Turn, Halt, Leave}
use Rattle.amo_params.specs.declared.givens.Givens.{Givens}
use Rattle.amo_kk.specs.declared.model.World.{World}
use Rattle.amo_kk.specs.declared.phase.Phase.{Phase}
use Rattle.amo_kk.specs.declared.phase.Phase.TheVariants.{Announcing, Trying, Reading, Claiming, Holding, Over, Left}
use Rattle.amo_kk.specs.declared.phase.Want.{Want}
use Rattle.amo_kk.specs.declared.phase.Want.TheVariants.{LoadNext, LoadDone, StoreClaim, StoreDone}
use Rattle.amo_plan.specs.Plan.{PlanSeen}
use Rattle.amo_report.specs.Texts.{moves_of}
use Rattle.amo_trace.specs.declared.transition.Act.{Act}
use Rattle.amo_trace.specs.declared.transition.Act.TheVariants.{Turned, Leaves, Stops, Stays, Idles}
use Rattle.amo_trace.specs.declared.transition.Fact.{Fact}
use Rattle.amo_trace.specs.declared.transition.Fact.TheVariants.{Plain, Tried, Known, Failed, Claimed, Done}
use Rattle.amo_trace.specs.declared.transition.Transition.{Transition}

-- the act of a move's worker if it isn't gone: a turn loads or stores what is wanted
abbrev pub act_here : World → Move → Act
act_here w (Turn p) = Turned (want (process w p).local) (loaded_value w (want (process w p).local))
act_here w (Halt p) = Stops
act_here w (Leave p) = if can_leave (process w p).local.phase then Leaves else Stays

-- what the worker of a move does
abbrev pub act_of : World → Move → Act
act_of w m = if (process w (worker_of m)).gone then Idles else act_here w m

-- the transition of a move with this number
abbrev pub transition_of : Givens → World → ℕ → Move → Transition
transition_of g w i m =
    let p = worker_of m in
    let after = process (world_after_move g w m) p in
    record {
      number = i;
      worker = p;
      act = act_of w m;
      before = (process w p).local.phase;
      after = after.local.phase;
      gone = after.gone;
    }

-- the workers 1..n are gone
abbrev pub are_gone : World → ℕ → Bool
are_gone w zero = true
are_gone w (suc n) = are_gone w n && (process w (suc n)).gone

-- all workers are gone
abbrev pub all_gone : Givens → World → Bool
all_gone g w = are_gone w g.workers

-- the transitions of these moves, numbered from i: they end once all workers are gone
abbrev pub transitions : Givens → World → ℕ → List Move → List Transition
transitions g w i [] = []
transitions g w i (m ∷ ms) = if all_gone g w then [] else transition_of g w i m ∷ transitions g (world_after_move g w m) (i + 1) ms

-- the transitions of a plan
abbrev pub transitions_of : PlanSeen → List Transition
transitions_of p = transitions p.givens (opening_world p.givens) 1 (moves_of p)

-- the job of an attempt or in a worker's hand, or 0 without a job
abbrev pub job_of : Phase → ℕ
job_of (Announcing j) = j
job_of (Trying j q) = j
job_of (Reading j q) = j
job_of (Claiming j) = j
job_of (Holding j) = j
job_of Over = 0
job_of Left = 0

-- the act is a load
abbrev pub loads : Act → Bool
loads (Turned want v) = is_load want
loads act = false

-- a choice was made: another job is to be announced, or the worker has ended
abbrev pub has_chosen : Phase → Bool
has_chosen (Announcing j) = true
has_chosen Over = true
has_chosen phase = false

-- the attempt has failed: a load was followed by a choice
abbrev pub fails : Transition → Bool
fails s = loads s.act && has_chosen s.after

-- the further effect of a load or store if the attempt hasn't failed: v is the value that is loaded
abbrev pub fact_of_want : Want → ℕ → Fact
fact_of_want (LoadNext q) v = if v == 0 then Plain else Tried v
fact_of_want (LoadDone q k) v = if v == 0 then Plain else Known v
fact_of_want (StoreClaim c j) v = Claimed j
fact_of_want (StoreDone k j) v = Done j
fact_of_want want v = Plain

-- the further effect of an act if the attempt hasn't failed
abbrev pub fact_of_act : Act → Fact
fact_of_act (Turned want v) = fact_of_want want v
fact_of_act act = Plain

-- what a transition comes to
abbrev pub fact_of : Transition → Fact
fact_of s = if fails s then Failed (job_of s.before) else fact_of_act s.act
