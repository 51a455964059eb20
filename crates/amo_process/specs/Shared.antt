-- Processes over one list of registers. Each knows only what it has read since it began.
use Rattle.std.specs.Prelude.{◌≡◌, ◌≢◌, ⊤, ◌⊎◌, ℕ, ◌<◌, Bool, List, [], ◌∷◌, ◌++◌, Option, Some, None, set, slice_index, length, replicate, take, if◌then◌else◌}
use Rattle.amo_sets.specs.Lists.{numbered, put, table}
use Rattle.amo_params.specs.Givens.{IsWorker}
use Rattle.amo_kk.specs.Record.{wants_nothing, can_leave}
use Rattle.amo_kk.specs.Step.{want, is_load}
use Rattle.amo_kk.specs.Words.{words_of, next_word, loaded_word, words_after, word_count}
use Rattle.amo_kk.specs.Again.{entries_of}
use Rattle.amo_kk.specs.World.{process}
use Rattle.amo_params.specs.declared.givens.Givens.{Givens}
use Rattle.amo_kk.specs.declared.phase.Want.{Want}
use Rattle.amo_kk.specs.declared.model.Process.{Process}
use Rattle.amo_params.specs.declared.moves.Move.TheVariants.{Turn, Leave}
use Rattle.amo_restart.specs.declared.model.Act.{Act}
use Rattle.amo_restart.specs.declared.model.Act.TheVariants.{Moves, Returns}
use Rattle.amo_restart.specs.declared.model.Tale.{Tale}
use Rattle.amo_restart.specs.Return.{process_after_return, world_of_tale}
use Rattle.amo_restart.specs.Story.{may_perform}
use Rattle.amo_process.specs.declared.model.Happening.{Happening}
use Rattle.amo_process.specs.declared.model.Happening.TheVariants.{Steps, Begins, Leaves}
use Rattle.amo_process.specs.declared.access.Access.{Access}
use Rattle.amo_process.specs.declared.access.Access.TheVariants.{Load, Store, Nothing}
use Rattle.amo_process.specs.declared.standing.Standing.{Standing}
use Rattle.amo_process.specs.declared.standing.Standing.TheVariants.{Beginning, Going}
use Rattle.amo_process.specs.Heard.{standing_of, told_by}

-- The registers, and for each worker the values that its process has read.
pub record Shared : Type 0 where
  pub words : List ℕ
  pub lists : List (List ℕ)

-- all registers are 0, and no process has read anything
abbrev pub first_shared : Givens → Shared
first_shared g = record { words = replicate (word_count g) 0; lists = table g.workers (λ _. []) }

-- where worker p stands
abbrev pub standing_at : Givens → Shared → ℕ → Option Standing
standing_at g s p = standing_of g p (numbered [] s.lists p)

-- what the load or store lets its process hear
abbrev pub heard_of : Givens → List ℕ → Want → ℕ
heard_of g words x = if is_load x then slice_index words (loaded_word g x) else 0

-- with one more value that the process of p has read
abbrev pub with_heard : Shared → ℕ → ℕ → List ℕ → Shared
with_heard s p v words = record { words = words; lists = put s.lists p (numbered [] s.lists p ++ v ∷ []) }

-- with a process of p that knows nothing
abbrev pub with_new_process : Shared → ℕ → List ℕ → Shared
with_new_process s p words = record { words = words; lists = put s.lists p [] }

-- after the next access of the process of p, which stands so
abbrev pub shared_after_step : Givens → Shared → ℕ → Option Standing → Shared
shared_after_step g s p None = s
shared_after_step g s p (Some (Beginning word)) = with_heard s p (slice_index s.words word) s.words
shared_after_step g s p (Some (Going l fresh)) =
    if wants_nothing l.state.phase
    then s
    else with_heard s p (heard_of g s.words (want l.state)) (words_after g p (want l.state) s.words)

-- after this access of the process of p
abbrev pub shared_after_access : Shared → ℕ → Access → Shared
shared_after_access s p (Load word) = with_heard s p (slice_index s.words word) s.words
shared_after_access s p (Store word v) = with_heard s p 0 (set s.words word v)
shared_after_access s p Nothing = s

-- after the process of p, which stands so, leaves: it stores 0 to its announcement, and does
-- nothing more
abbrev pub shared_after_leave : Givens → Shared → ℕ → Option Standing → Shared
shared_after_leave g s p None = s
shared_after_leave g s p (Some (Beginning word)) = s
shared_after_leave g s p (Some (Going l fresh)) = if can_leave l.state.phase then with_new_process s p (set s.words (next_word p) 0) else s

-- the registers and the lists of values after one event
abbrev pub shared_after : Givens → Shared → Happening → Shared
shared_after g s (Steps p) = shared_after_step g s p (standing_at g s p)
shared_after g s (Begins p) = with_new_process s p s.words
shared_after g s (Leaves p) = shared_after_leave g s p (standing_at g s p)

-- after all of these, in their order
abbrev pub shared_after_all : Givens → Shared → List Happening → Shared
shared_after_all g s [] = s
shared_after_all g s (h ∷ hs) = shared_after_all g (shared_after g s h) hs

-- what happens to the shared words and the lists from the first on
abbrev pub shared_of : Givens → List Happening → Shared
shared_of g hs = shared_after_all g (first_shared g) hs

-- the acts of a tale that come of it: an access of the machine is a turn, a new process is a
-- return, and loading own words is nothing
abbrev pub acts_of_step : ℕ → Option Standing → List Act
acts_of_step p None = []
acts_of_step p (Some (Beginning word)) = []
acts_of_step p (Some (Going l fresh)) = if wants_nothing l.state.phase then [] else Moves (Turn p) ∷ []

-- the acts of a leave: the worker's leave in the algorithm and a restart, if the worker may leave
abbrev pub acts_of_leave : ℕ → Option Standing → List Act
acts_of_leave p None = []
acts_of_leave p (Some (Beginning word)) = []
acts_of_leave p (Some (Going l fresh)) = if can_leave l.state.phase then Moves (Leave p) ∷ Returns p ∷ [] else []

-- the acts of one event
abbrev pub acts_of_one : Givens → Shared → Happening → List Act
acts_of_one g s (Steps p) = acts_of_step p (standing_at g s p)
acts_of_one g s (Begins p) = Returns p ∷ []
acts_of_one g s (Leaves p) = acts_of_leave p (standing_at g s p)

-- the acts of these events, in their order, from this state on
abbrev pub acts_after : Givens → Shared → List Happening → List Act
acts_after g s [] = []
acts_after g s (h ∷ hs) = acts_of_one g s h ++ acts_after g (shared_after g s h) hs

-- the acts of these events from the first state on
abbrev pub acts_of : Givens → List Happening → List Act
acts_of g hs = acts_after g (first_shared g) hs

-- the job that the process of p is to perform, or 0
abbrev pub told_to_perform : Givens → Shared → ℕ → ℕ
told_to_perform g s p = told_by (standing_at g s p)

-- the own words of a worker, as its process loads them when it begins
abbrev pub own_words : Process → List ℕ
own_words a = a.next ∷ a.claim ∷ entries_of a.row ++ 0 ∷ []

-- The process of worker p has loaded some of its own words, not all of them, and its record is the
-- one that they give.
pub record IsBeginning (g : Givens) (p : ℕ) (heard : List ℕ) (a : Process) : Type 0 where
  pub few : length heard < length (own_words a)
  pub loaded : heard ≡ take (length heard) (own_words a)
  pub same : process_after_return g p a ≡ a

-- The process of worker p has loaded its own words, and its record is that of its list.
abbrev pub IsGoing : Givens → ℕ → List ℕ → Process → Type 0
IsGoing g p heard a = (fresh : Bool) × (standing_of g p heard ≡ Some (Going (record { givens = g; number = p; state = a.local }) fresh))

-- The record of worker p by its list of values is its record in the trace.
pub record ShowsWorker (g : Givens) (heard : List ℕ) (t : Tale) (p : ℕ) : Type 0 where
  pub gone : (process (world_of_tale t) p).gone ≡ wants_nothing (process (world_of_tale t) p).local.phase
  pub stands : IsBeginning g p heard (process (world_of_tale t) p) ⊎ IsGoing g p heard (process (world_of_tale t) p)
  pub performs : may_perform p 0 t.entries ≡ told_by (standing_of g p heard)

-- The words are those of the tale, and so is each worker.
pub record Shows (g : Givens) (s : Shared) (t : Tale) : Type 0 where
  pub words : s.words ≡ words_of t.processes
  pub size : length s.lists ≡ g.workers
  pub workers : (p : ℕ) → IsWorker g p → ShowsWorker g (numbered [] s.lists p) t p

-- each is of a worker
abbrev pub AreOfWorkers : Givens → List Happening → Type 0
AreOfWorkers g [] = ⊤
AreOfWorkers g (Steps p ∷ hs) = IsWorker g p × AreOfWorkers g hs
AreOfWorkers g (Begins p ∷ hs) = IsWorker g p × AreOfWorkers g hs
AreOfWorkers g (Leaves p ∷ hs) = IsWorker g p × AreOfWorkers g hs

-- none of these is an access or a new process of p
abbrev pub HasNoStep : ℕ → List Happening → Type 0
HasNoStep p [] = ⊤
HasNoStep p (Steps q ∷ hs) = (q ≢ p) × HasNoStep p hs
HasNoStep p (Begins q ∷ hs) = (q ≢ p) × HasNoStep p hs
HasNoStep p (Leaves q ∷ hs) = HasNoStep p hs
