-- The results of a worker's calls. Each call passes on the worker's table, its handle and the
-- handle's knowledge, changed by one step or not at all.
use Rattle.std.specs.Prelude.{◌≡◌, ℕ, ◌+◌, ◌-◌, ◌^◌, min, true, [], ◌∷◌, ◌++◌, if◌then◌else◌}
use Rattle.amo_kk.specs.Record.{is_over, wants_nothing, jobs_in_hand}
use Rattle.amo_kk.specs.Step.{shown}
use Rattle.amo_words.specs.Faces.{Seated, machine}
use Rattle.amo_words.specs.Plays.{HasTurned, HasLeft}
use Rattle.amo_words.specs.Answers.{HasStepped, filed}
use Rattle.amo_words.specs.declared.floor.working.Step.{Step}
use Rattle.amo_words.specs.declared.floor.working.Step.TheVariants.{Moved, Claimed, Ended}
use Rattle.amo_words.specs.declared.floor.working.Filed.{Filed}
use Rattle.amo_words.specs.declared.floor.working.Filed.TheVariants.{More as FiledMore, Ended as FiledEnded}
use Rattle.amo_claims.specs.declared.states.Go.{Go}
use Rattle.amo_claims.specs.declared.states.Go.TheVariants.{More, Got, Over}
use Rattle.amo_claims.specs.declared.states.After.{After}
use Rattle.amo_claims.specs.declared.states.After.TheVariants.{More as StillMore, Over as NowOver}
use Rattle.amo_claims.specs.States.{IsReady, Holds}

-- the state of a worker with nothing in its hand: over if it has ended or left
abbrev pub state_of : {P : Type 0} → Seated P → After P
state_of w = if wants_nothing (machine w).state.phase then NowOver w else StillMore w

-- the worker in either state
abbrev pub worker_in : {P : Type 0} → After P → Seated P
worker_in (StillMore r) = r
worker_in (NowOver e) = e

-- The worker b, now w, is the same one: its table and its seat there.
pub record IsSame {P : Type 0} (b w : Seated P) : Type 0 where
  pub table : w.table_id ≡ b.table_id
  pub seat : w.id ≡ b.id

-- The worker b, now w, has taken just one step, which answers so.
pub record IsStep {P : Type 0} (b : Seated P) (step : Step P) (w : Seated P) : Type 0 where
  pub same : IsSame b w
  pub stepped : HasStepped b.view (machine b) step w.view

-- what the step of the ready worker b came to
abbrev pub Goes : {P : Type 0} → Seated P → Go P → Type 0
Goes b (More r) = IsStep b Moved r × IsReady r
Goes b (Got h) = IsStep b (Claimed h.job h.payload) h.worker × Holds h.worker h.job h.payload
Goes b (Over e) = IsStep b Ended e

-- The worker b, now w, has filed the job in its hand, which answers so.
pub record IsFiling {P : Type 0} (b : Seated P) (answer : Filed) (w : Seated P) : Type 0 where
  pub same : IsSame b w
  pub turned : HasTurned b.view (machine b) 0 w.view
  pub answers : answer ≡ filed (shown (machine b).state.phase (machine w).state.phase)

-- what the filing of the worker b came to
abbrev pub Files : {P : Type 0} → Seated P → After P → Type 0
Files b (StillMore r) = IsFiling b FiledMore r × IsReady r
Files b (NowOver e) = IsFiling b FiledEnded e

-- The worker b, now w, has left.
pub record HasGone {P : Type 0} (b w : Seated P) : Type 0 where
  pub same : IsSame b w
  pub left : HasLeft b.view (machine b) w.view

-- In plain words: from b to w the worker has the same table, givens, payloads and number, and took
-- one step.
pub record IsOneStepOn {P : Type 0} (b w : Seated P) : Type 0 where
  pub table : w.table_id ≡ b.table_id
  pub givens : w.view.givens ≡ b.view.givens
  pub payloads : w.view.payloads ≡ b.view.payloads
  pub machine_givens : (machine w).givens ≡ (machine b).givens
  pub number : (machine w).number ≡ (machine b).number
  pub steps : (machine w).state.steps ≡ min ((machine b).state.steps + 1) (2 ^ 64 - 1)

-- in plain words: the worker is over, and nothing is in its hand
abbrev pub IsOverNow : {P : Type 0} → Seated P → Type 0
IsOverNow w = (is_over (machine w).state.phase ≡ true) × (jobs_in_hand (machine w).state.phase ≡ [])

-- in plain words: one step on, and no job more is done
abbrev pub GoesOn : {P : Type 0} → Seated P → Go P → Type 0
GoesOn b (More r) = IsOneStepOn b r × ((machine r).state.dones ≡ (machine b).state.dones)
GoesOn b (Got h) = IsOneStepOn b h.worker × ((machine h.worker).state.dones ≡ (machine b).state.dones)
GoesOn b (Over e) = IsOneStepOn b e × ((machine e).state.dones ≡ (machine b).state.dones) × IsOverNow e

-- in plain words: one step on, and the job is the last that is done
abbrev pub FilesOn : {P : Type 0} → Seated P → ℕ → After P → Type 0
FilesOn b j (StillMore r) = IsOneStepOn b r × ((machine r).state.dones ≡ (machine b).state.dones ++ j ∷ [])
FilesOn b j (NowOver e) = IsOneStepOn b e × ((machine e).state.dones ≡ (machine b).state.dones ++ j ∷ []) × IsOverNow e
