-- The record of a worker: what its phase and its sets say.
use Rattle.std.specs.Prelude.{◌≡◌, ℕ, ◌<◌, Bool, true, false, not, ◌&&◌, List, [], ◌∷◌, ⊤}
use Rattle.amo_sets.specs.Lists.{numbered, table}
use Rattle.amo_sets.specs.Sets.{has}
use Rattle.amo_params.specs.declared.givens.Givens.{Givens}
use Rattle.amo_kk.specs.declared.phase.Phase.{Phase}
use Rattle.amo_kk.specs.declared.phase.Phase.TheVariants.{Trying, Reading, Claiming, Holding, Over, Left}
use Rattle.amo_kk.specs.declared.model.Record.{Record}

-- the record with nothing in it; its phase is still to be chosen
abbrev pub empty_record : Givens → Record
empty_record g = record { phase = Over; known = []; tried = []; fronts = table g.workers (λ _. 0); claimed = []; dones = []; steps = 0 }

-- j is free: not known to be done
abbrev pub is_free : Record → ℕ → Bool
is_free r j = not (has r.known j)

-- j is open: free, and not seen announced by another worker in this attempt
abbrev pub is_open : Record → ℕ → Bool
is_open r j = not (has r.known j) && not (has r.tried j)

-- the worker has ended by its own choice
abbrev pub is_over : Phase → Bool
is_over Over = true
is_over phase = false

-- the worker takes no step of its own any more: it has ended, or left
abbrev pub wants_nothing : Phase → Bool
wants_nothing Over = true
wants_nothing Left = true
wants_nothing phase = false

-- the worker may leave: it goes on, and has nothing in its hand
abbrev pub can_leave : Phase → Bool
can_leave (Holding j) = false
can_leave Over = false
can_leave Left = false
can_leave phase = true

-- the job in its hand, as a list of one job or none
abbrev pub jobs_in_hand : Phase → List ℕ
jobs_in_hand (Holding j) = j ∷ []
jobs_in_hand phase = []

-- the job in the hand of a worker in this phase, or 0
abbrev pub job_in_hand : Phase → ℕ
job_in_hand phase = numbered 0 (jobs_in_hand phase) 1

-- in an attempt on j, the announcement of q was read
abbrev pub IsPast : Phase → ℕ → ℕ → Type 0
IsPast (Trying i next) q j = (i ≡ j) × (q < next)
IsPast (Reading i next) q j = i ≡ j
IsPast (Claiming i) q j = i ≡ j
IsPast (Holding i) q j = i ≡ j
IsPast phase q j = ⊥

-- in this attempt the row of q was read up to a zero
abbrev pub IsThrough : Phase → ℕ → Type 0
IsThrough (Reading i next) q = q < next
IsThrough (Claiming i) q = ⊤
IsThrough (Holding i) q = ⊤
IsThrough phase q = ⊥

-- clear of q on j: past q in an attempt on j, and j was not seen announced
abbrev pub IsClear : Record → ℕ → ℕ → Type 0
IsClear r q j = IsPast r.phase q j × (has r.tried j ≡ false)
