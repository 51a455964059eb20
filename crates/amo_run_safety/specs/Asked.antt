-- The deeds of a process since it began, while it is in no round.
use Rattle.std.specs.Prelude.{ℕ, List, [], ◌∷◌, ◌++◌, Option, Some, None, ◌==◌, if◌then◌else◌}
use Rattle.amo_driver.specs.declared.model.Deed.{Deed}
use Rattle.amo_driver.specs.declared.model.Deed.TheVariants.{Fell}
use Rattle.amo_run_log.specs.declared.journal.Attempt.{Attempt}
use Rattle.amo_run_safety.specs.Site.{Event, Starts, Acts, Misses}

-- The entries of its journal as it began, and its deeds since.
pub record Asker : Type 0 where
  pub attempts : List Attempt
  pub deeds : List Deed

-- with one more deed, if there is a process
abbrev pub with_more : Option Asker → Deed → Option Asker
with_more None d = None
with_more (Some a) d = Some (record a { deeds = a.deeds ++ d ∷ [] })

-- the asker of worker p after the next event. If it misses the result of a call, it knows that the
-- call failed
abbrev pub asker_after : ℕ → Option Asker → Event → Option Asker
asker_after p a (Starts q es) = if p == q then Some (record { attempts = es; deeds = [] }) else a
asker_after p a (Acts q time d) = if p == q then with_more a d else a
asker_after p a (Misses q time t) = if p == q then with_more a (Fell t) else a
asker_after p a e = a

-- the same after all of these, in their order
abbrev pub asker_after_all : ℕ → Option Asker → List Event → Option Asker
asker_after_all p a [] = a
asker_after_all p a (e ∷ es) = asker_after_all p (asker_after p a e) es

-- the deeds of the last process of worker p, if one has begun
abbrev pub asker_of : ℕ → List Event → Option Asker
asker_of p es = asker_after_all p None es
