-- The states of a worker, as contracts see them.
use Rattle.std.specs.Prelude.{◌≡◌, ℕ, ◌-◌, false, [], ◌∷◌, Some, slice_get}
use Rattle.amo_kk.specs.Record.{wants_nothing, jobs_in_hand}
use Rattle.amo_words.specs.Faces.{Seated, machine}

-- A worker with the job in its hand and the job's payload.
pub record HeldView (P : Type 0) : Type 0 where
  pub worker : Seated P
  pub job : ℕ
  pub payload : P

-- A worker with the job in its hand and the answer of its performance.
pub record PerformedView (P Out : Type 0) : Type 0 where
  pub worker : Seated P
  pub job : ℕ
  pub out : Out

-- The worker goes on, with nothing in its hand.
pub record IsReady {P : Type 0} (w : Seated P) : Type 0 where
  pub empty : jobs_in_hand (machine w).state.phase ≡ []
  pub goes_on : wants_nothing (machine w).state.phase ≡ false

-- the job is in the worker's hand
abbrev pub HoldsJob : {P : Type 0} → Seated P → ℕ → Type 0
HoldsJob w j = jobs_in_hand (machine w).state.phase ≡ j ∷ []

-- The job is in the worker's hand, and this is its payload as it was put in.
pub record Holds {P : Type 0} (w : Seated P) (j : ℕ) (x : P) : Type 0 where
  pub job : HoldsJob w j
  pub payload : slice_get w.view.payloads (j - 1) ≡ Some x
