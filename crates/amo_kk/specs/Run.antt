-- Which lists of events are runs of the sequential object, and what a run says in plain words.
use Rattle.std.specs.Prelude.{◌≡◌, ℕ, suc, ◌+◌, Bool, true, false, ◌&&◌, ◌||◌, List, [], ◌∷◌, ◌++◌, length, ◌==◌, if◌then◌else◌, ⊤}
use Rattle.amo_kk.specs.Object.{is_step, object_after}
use Rattle.amo_params.specs.declared.givens.Givens.{Givens}
use Rattle.amo_kk.specs.declared.event.Event.{Event}
use Rattle.amo_kk.specs.declared.event.Event.TheVariants.{Claimed, Done}
use Rattle.amo_kk.specs.declared.model.Object.{Object}

-- the state after all these events, in their order
abbrev pub object_after_all : Object → List Event → Object
object_after_all s [] = s
object_after_all s (e ∷ es) = object_after_all (object_after s e) es

-- each event is a step from the state that the ones before it leave
abbrev pub IsRun : Givens → Object → List Event → Type 0
IsRun g s [] = ⊤
IsRun g s (e ∷ es) = (is_step g s e ≡ true) × IsRun g (object_after s e) es

-- the place, from 1, of the first event that is no such step, or 0 if each is one
abbrev pub first_bad : Givens → Object → List Event → ℕ
first_bad g s [] = 0
first_bad g s (e ∷ es) =
    if is_step g s e
    then (if first_bad g (object_after s e) es == 0 then 0 else suc (first_bad g (object_after s e) es))
    else 1

-- The event at place i, from 1, is no step, and the ones before it are a run.
pub record IsFirstBad (g : Givens) (s : Object) (events : List Event) (i : ℕ) : Type 0 where
  pub before : List Event
  pub bad : Event
  pub rest : List Event
  pub parts : events ≡ before ++ bad ∷ rest
  pub place : length before + 1 ≡ i
  pub run : IsRun g s before
  pub refused : is_step g (object_after_all s before) bad ≡ false

-- the jobs that were claimed, in their order
abbrev pub claimed_jobs : List Event → List ℕ
claimed_jobs [] = []
claimed_jobs (Claimed p j ∷ es) = j ∷ claimed_jobs es
claimed_jobs (e ∷ es) = claimed_jobs es

-- the jobs that were done, in their order
abbrev pub done_jobs : List Event → List ℕ
done_jobs [] = []
done_jobs (Done p j ∷ es) = j ∷ done_jobs es
done_jobs (e ∷ es) = done_jobs es

-- whether worker p has claimed j
abbrev pub has_claimed : List Event → ℕ → ℕ → Bool
has_claimed [] p j = false
has_claimed (Claimed q i ∷ es) p j = ((q == p) && (i == j)) || has_claimed es p j
has_claimed (e ∷ es) p j = has_claimed es p j
