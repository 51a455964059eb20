-- The lists of entries that are stories: runs of the sequential object, whose workers may come
-- back. And the jobs that a story names.
use Rattle.std.specs.Prelude.{◌≡◌, ℕ, suc, Bool, true, false, ◌&&◌, List, [], ◌∷◌, ◌==◌, if◌then◌else◌, ⊤}
use Rattle.amo_sets.specs.Lists.{put}
use Rattle.amo_sets.specs.Sets.{has, with_number}
use Rattle.amo_params.specs.Givens.{is_within}
use Rattle.amo_kk.specs.Object.{has_in_hand, is_step, object_after}
use Rattle.amo_kk.specs.Run.{done_jobs}
use Rattle.amo_params.specs.declared.givens.Givens.{Givens}
use Rattle.amo_kk.specs.declared.event.Event.{Event}
use Rattle.amo_kk.specs.declared.event.Event.TheVariants.{Claimed, Done, Ended, Halted, Left}
use Rattle.amo_kk.specs.declared.model.Object.{Object}
use Rattle.amo_restart.specs.declared.model.Entry.{Entry}
use Rattle.amo_restart.specs.declared.model.Entry.TheVariants.{Shown, Returned}

-- whether the entry is a step of the object from this state: a worker returns with what is in its
-- hand
abbrev pub is_entry : Givens → Object → Entry → Bool
is_entry g s (Shown e) = is_step g s e
is_entry g s (Returned p j) = is_within g.workers p && has_in_hand s p j

-- the state after it: a worker that returns isn't gone, and what it has in its hand stays there
abbrev pub object_after_entry : Object → Entry → Object
object_after_entry s (Shown e) = object_after s e
object_after_entry s (Returned p j) = record s { gone = put s.gone p false }

-- the state after all these entries, in their order
abbrev pub object_after_entries : Object → List Entry → Object
object_after_entries s [] = s
object_after_entries s (x ∷ xs) = object_after_entries (object_after_entry s x) xs

-- each entry is a step from the state that the ones before it leave
abbrev pub IsStory : Givens → Object → List Entry → Type 0
IsStory g s [] = ⊤
IsStory g s (x ∷ xs) = (is_entry g s x ≡ true) × IsStory g (object_after_entry s x) xs

-- the events of a story, without the returns
abbrev pub events_in : List Entry → List Event
events_in [] = []
events_in (Shown e ∷ xs) = e ∷ events_in xs
events_in (Returned p j ∷ xs) = events_in xs

-- the jobs that were in doubt at a return, as a set
abbrev pub doubted_jobs : List Entry → List ℕ
doubted_jobs [] = []
doubted_jobs (Shown e ∷ xs) = doubted_jobs xs
doubted_jobs (Returned p j ∷ xs) = if j == 0 then doubted_jobs xs else with_number j (doubted_jobs xs)

-- how many returns found a job in doubt
abbrev pub returns_in_doubt : List Entry → ℕ
returns_in_doubt [] = 0
returns_in_doubt (Shown e ∷ xs) = returns_in_doubt xs
returns_in_doubt (Returned p j ∷ xs) = if j == 0 then returns_in_doubt xs else suc (returns_in_doubt xs)

-- the list without those of the other one
abbrev pub without_all : List ℕ → List ℕ → List ℕ
without_all ds [] = []
without_all ds (x ∷ xs) = if has ds x then without_all ds xs else x ∷ without_all ds xs

-- the jobs that were filed: performed, or in doubt
abbrev pub filed_jobs : List Entry → List ℕ
filed_jobs xs = done_jobs (events_in xs)

-- the jobs that were performed for certain: filed, and never in doubt
abbrev pub sure_jobs : List Entry → List ℕ
sure_jobs xs = without_all (doubted_jobs xs) (filed_jobs xs)

-- the job that p may perform after this event, h being the one before it: what it claimed, until
-- that is filed
abbrev pub may_after : ℕ → ℕ → Event → ℕ
may_after p h (Claimed q j) = if q == p then j else h
may_after p h (Done q j) = if q == p then 0 else h
may_after p h (Ended q) = h
may_after p h (Halted q) = h
may_after p h (Left q) = h

-- the job that p may perform after these entries, or 0, h being the one before them: a return
-- leaves none
abbrev pub may_perform : ℕ → ℕ → List Entry → ℕ
may_perform p h [] = h
may_perform p h (Shown e ∷ xs) = may_perform p (may_after p h e) xs
may_perform p h (Returned q j ∷ xs) = may_perform p (if q == p then 0 else h) xs

-- whether the event claims or files a job of p
abbrev pub is_deed_of : ℕ → Event → Bool
is_deed_of p (Claimed q j) = q == p
is_deed_of p (Done q j) = q == p
is_deed_of p (Ended q) = false
is_deed_of p (Halted q) = false
is_deed_of p (Left q) = false

-- none of the entries is a claim, a filing or a return of p
abbrev pub HasNoDeed : ℕ → List Entry → Type 0
HasNoDeed p [] = ⊤
HasNoDeed p (Shown e ∷ xs) = (is_deed_of p e ≡ false) × HasNoDeed p xs
HasNoDeed p (Returned q j ∷ xs) = ((q == p) ≡ false) × HasNoDeed p xs
