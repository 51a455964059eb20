-- The results of a worker's calls.
use Rattle.std.specs.Prelude.{◌≡◌, ℕ, ◌-◌, Bool, true, false, List, Some, slice_get}
use Rattle.amo_kk.specs.Record.{wants_nothing}
use Rattle.amo_kk.specs.Step.{shown}
use Rattle.amo_kk.specs.Machine.{LocalView}
use Rattle.amo_kk.specs.declared.event.Shown.{Shown}
use Rattle.amo_kk.specs.declared.event.Shown.TheVariants.{Quiet, Claimed, Done, Ended}
use Rattle.amo_kk.specs.declared.event.Leaving.{Leaving}
use Rattle.amo_kk.specs.declared.event.Leaving.TheVariants.{Left as LeftNow}
use Rattle.amo_words.specs.declared.rule.View.{View}
use Rattle.amo_words.specs.declared.floor.working.Step.{Step}
use Rattle.amo_words.specs.declared.floor.working.Step.TheVariants.{Moved, Claimed as StepClaimed, Ended as StepEnded, Idle}
use Rattle.amo_words.specs.declared.floor.working.Filed.{Filed}
use Rattle.amo_words.specs.declared.floor.working.Filed.TheVariants.{More, Ended as FiledEnded}
use Rattle.amo_words.specs.Plays.{machine_turned, HasTurned, HasLeft}

-- the step's result is what its event shows; a claim hands over the payload as it was put in
abbrev pub StepShows : {P : Type 0} → List P → Shown → Step P → Type 0
StepShows payloads Quiet step = step ≡ Moved
StepShows {P} payloads (Claimed j) step = (x : P) × (step ≡ StepClaimed j x) × (slice_get payloads (j - 1) ≡ Some x)
StepShows payloads Ended step = step ≡ StepEnded
StepShows payloads event step = ⊥

-- what a step answers whose event shows no claim
abbrev pub quiet_step : {P : Type 0} → Shown → Step P
quiet_step Ended = StepEnded
quiet_step event = Moved

-- The worker with the machine l took a turn from the view v to w, and the step's result is what its
-- event shows.
pub record HasStepped {P : Type 0} (v : View P) (l : LocalView) (step : Step P) (w : View P) : Type 0 where
  pub loaded : ℕ
  pub turned : HasTurned v l loaded w
  pub shows : StepShows v.payloads (shown l.state.phase (machine_turned l loaded).state.phase) step

-- the worker has made this step; if it wants nothing, the step is idle and nothing changes
abbrev pub SteppedIf : {P : Type 0} → Bool → View P → LocalView → Step P → View P → Type 0
SteppedIf true v l step w = (step ≡ Idle) × (w ≡ v)
SteppedIf false v l step w = HasStepped v l step w

-- one step of the worker of this machine leads from the first view to the second
abbrev pub Stepped : {P : Type 0} → View P → LocalView → Step P → View P → Type 0
Stepped v l step w = SteppedIf (wants_nothing l.state.phase) v l step w

-- the result of recording a job as done, by what the event shows
abbrev pub filed : Shown → Filed
filed Quiet = More
filed (Claimed j) = More
filed (Done j) = More
filed event = FiledEnded

-- the worker left, or nothing changed
abbrev pub LeftIf : {P : Type 0} → Leaving → View P → LocalView → View P → Type 0
LeftIf LeftNow v l w = HasLeft v l w
LeftIf answer v l w = w ≡ v
