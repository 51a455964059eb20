-- The facts that hold in every world, and when the sequential object agrees with a world.
use Rattle.std.specs.Prelude.{◌≡◌, ◌⊎◌, ℕ, ◌+◌, ◌<◌, ◌≤◌, true, false, List, [], ◌∷◌, ◌++◌, length, get_or, nat_eq, if◌then◌else◌, ⊤}
use Rattle.amo_sets.specs.Lists.{numbered}
use Rattle.amo_sets.specs.Sets.{has, AreDistinct}
use Rattle.amo_sets.specs.Rank.{count}
use Rattle.amo_params.specs.Givens.{IsJob, IsWorker, IsOther, others_before}
use Rattle.amo_kk.specs.Object.{first_object}
use Rattle.amo_kk.specs.Run.{object_after_all, IsRun}
use Rattle.amo_kk.specs.Record.{is_open, wants_nothing, job_in_hand, jobs_in_hand, IsThrough, IsClear}
use Rattle.amo_kk.specs.World.{process}
use Rattle.amo_params.specs.declared.givens.Givens.{Givens}
use Rattle.amo_kk.specs.declared.event.Event.{Event}
use Rattle.amo_kk.specs.declared.phase.Phase.{Phase}
use Rattle.amo_kk.specs.declared.phase.Phase.TheVariants.{Announcing, Trying, Reading, Claiming, Holding, Over, Left}
use Rattle.amo_kk.specs.declared.model.Record.{Record}
use Rattle.amo_kk.specs.declared.model.Process.{Process}
use Rattle.amo_kk.specs.declared.model.World.{World}
use Rattle.amo_kk.specs.declared.model.Object.{Object}

-- the announcement is the job of the attempt, once it was stored
abbrev pub Announces : Phase → ℕ → Type 0
Announces (Trying j q) next = next ≡ j
Announces (Reading j q) next = next ≡ j
Announces (Claiming j) next = next ≡ j
Announces (Holding j) next = next ≡ j
Announces phase next = ⊤

-- what the phase of worker p says of its job, of the other worker, and of the sets of the record
abbrev pub FitsPhase : Givens → ℕ → Record → Phase → Type 0
FitsPhase g p r (Announcing j) = IsJob g j × (r.tried ≡ [])
FitsPhase g p r (Trying j q) = IsJob g j × IsOther g p q × (length r.tried ≤ others_before p q)
FitsPhase g p r (Reading j q) = IsJob g j × IsOther g p q
FitsPhase g p r (Claiming j) = IsJob g j × (has r.known j ≡ false) × (has r.tried j ≡ false)
FitsPhase g p r (Holding j) = IsJob g j × (has r.known j ≡ false) × (has r.tried j ≡ false)
FitsPhase g p r Over = count g.jobs (is_open r) < g.beta
FitsPhase g p r Left = ⊤

-- The facts about the record of worker p alone.
pub record IsSoundRecord (g : Givens) (p : ℕ) (r : Record) : Type 0 where
  -- what it claimed is what it has done, and then what is in its hand
  pub claims : r.claimed ≡ r.dones ++ jobs_in_hand r.phase
  pub distinct : AreDistinct r.claimed
  pub jobs : (j : ℕ) → has r.claimed j ≡ true → IsJob g j
  -- it knows its own dones
  pub own : (j : ℕ) → has r.dones j ≡ true → has r.known j ≡ true
  -- it has seen fewer jobs announced than there are workers
  pub tried_few : length r.tried < g.workers
  pub tried_jobs : (j : ℕ) → has r.tried j ≡ true → IsJob g j
  -- it has a front for each worker, and no row has more than n entries
  pub fronts : length r.fronts ≡ g.workers
  pub front : (q : ℕ) → numbered 0 r.fronts q ≤ g.jobs
  pub stands : FitsPhase g p r r.phase

-- The facts about worker p alone, with the registers that it writes.
pub record IsSoundProcess (g : Givens) (p : ℕ) (a : Process) : Type 0 where
  pub local : IsSoundRecord g p a.local
  -- its announcement, its count of claims, and its row: the dones and then 0
  pub announces : Announces a.local.phase a.next
  pub next : a.next ≤ g.jobs
  pub claim : a.claim ≡ length a.local.claimed
  pub row_length : length a.row ≡ g.jobs + 1
  pub row : (k : ℕ) → get_or a.row k 0 ≡ get_or a.local.dones k 0
  pub gone : wants_nothing a.local.phase ≡ true → a.gone ≡ true

-- q, with record s, has done j, and p, with record r, knows it if it is through the row of q
pub record IsDoneByOther (r : Record) (q j : ℕ) (s : Record) : Type 0 where
  pub done : has s.dones j ≡ true
  pub known : IsThrough r.phase q → has r.known j ≡ true

-- q, with record s, has not claimed j, and is not clear of p on j
pub record IsUnclaimedByOther (p j : ℕ) (s : Record) : Type 0 where
  pub free : has s.claimed j ≡ false
  pub unclear : IsClear s p j → ⊥

-- The facts about worker p, with record r, and another worker q, with record s.
pub record IsSoundTowards (p : ℕ) (r : Record) (q : ℕ) (s : Record) : Type 0 where
  -- no job is claimed by both
  pub claims : (j : ℕ) → has r.claimed j ≡ true → has s.claimed j ≡ false
  -- p has read no more than q has done, and knows what it has read
  pub front : numbered 0 r.fronts q ≤ length s.dones
  pub read : (k : ℕ) → k < numbered 0 r.fronts q → has r.known (get_or s.dones k 0) ≡ true
  -- where p is clear of q on j, q has done j, or has not claimed it and is not clear of p on it
  pub clear : (j : ℕ) → IsClear r q j → IsDoneByOther r q j s ⊎ IsUnclaimedByOther p j s

-- some worker has done j
abbrev pub IsDone : Givens → (ℕ → Process) → ℕ → Type 0
IsDone g at j = (q : ℕ) × IsWorker g q × (has (at q).local.dones j ≡ true)

-- The facts about all workers, `at p` being worker p: about each alone, about each two, and that a
-- known job is done.
pub record AreLawful (g : Givens) (at : ℕ → Process) : Type 0 where
  pub sound : (p : ℕ) → IsWorker g p → IsSoundProcess g p (at p)
  pub apart : (p q : ℕ) → IsWorker g p → IsOther g p q → IsSoundTowards p (at p).local q (at q).local
  pub known : (p j : ℕ) → IsWorker g p → has (at p).local.known j ≡ true → IsDone g at j

-- The facts that hold in every world.
pub record IsLawful (g : Givens) (w : World) : Type 0 where
  pub size : length w.processes ≡ g.workers
  pub lawful : AreLawful g (process w)

-- the jobs that the pairs have for worker p, in their order
abbrev pub jobs_of : List (ℕ × ℕ) → ℕ → List ℕ
jobs_of [] p = []
jobs_of (x ∷ xs) p = if nat_eq x.0 p then x.1 ∷ jobs_of xs p else jobs_of xs p

-- The state of the object agrees with the workers, `at p` being worker p.
pub record Agrees (g : Givens) (at : ℕ → Process) (s : Object) : Type 0 where
  -- unclaimed are just the jobs that no worker has claimed
  pub unclaimed : (j : ℕ) → IsJob g j → ((q : ℕ) → IsWorker g q → has (at q).local.claimed j ≡ false) → has s.unclaimed j ≡ true
  pub only_unclaimed : (j : ℕ) → has s.unclaimed j ≡ true → IsJob g j × ((q : ℕ) → IsWorker g q → has (at q).local.claimed j ≡ false)
  -- in hand is what the phases hold
  pub in_hand_size : length s.in_hand ≡ g.workers
  pub in_hand : (p : ℕ) → IsWorker g p → numbered 0 s.in_hand p ≡ job_in_hand (at p).local.phase
  -- the performed pairs are just the dones, in the order of each worker
  pub performed : (p : ℕ) → jobs_of s.performed p ≡ (at p).local.dones
  -- gone are just the workers that are gone
  pub gone_size : length s.gone ≡ g.workers
  pub gone : (p : ℕ) → IsWorker g p → numbered true s.gone p ≡ (at p).gone

-- the state of the object after the history of this world
abbrev pub object_of : Givens → World → Object
object_of g w = object_after_all (first_object g) w.history

-- The history is a run of the object, and the state that it leaves agrees with the world.
abbrev pub HasRun : Givens → World → Type 0
HasRun g w = IsRun g (first_object g) w.history × Agrees g (process w) (object_of g w)

-- The world v goes on from the world w, which agrees with the state s. The events that v adds to
-- the history are a run from s, and the state that they leave agrees with v.
pub record GoesOn (g : Givens) (s : Object) (w v : World) : Type 0 where
  pub events : List Event
  pub history : v.history ≡ w.history ++ events
  pub run : IsRun g s events
  pub agrees : Agrees g (process v) (object_after_all s events)
