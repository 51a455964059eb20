-- The events of a history on a worker and on a job.
use Rattle.std.specs.Prelude.{ℕ, Bool, true, false, not, List, [], ◌∷◌, ◌==◌, if◌then◌else◌, codes}
use Rattle.amo_sets.specs.Sets.{has, members}
use Rattle.amo_kk.specs.Run.{claimed_jobs}
use Rattle.amo_kk.specs.declared.event.Event.{Event}
use Rattle.amo_kk.specs.declared.event.Event.TheVariants.{Claimed, Done, Ended, Halted, Left}

-- a claim of worker p
abbrev pub is_claim_of : ℕ → Event → Bool
is_claim_of p (Claimed q j) = q == p
is_claim_of p event = false

-- a performance of worker p
abbrev pub is_done_of : ℕ → Event → Bool
is_done_of p (Done q j) = q == p
is_done_of p event = false

-- an end
abbrev pub is_end : Event → Bool
is_end (Ended q) = true
is_end event = false

-- how worker p went, by the first event in which it did, or `running`
abbrev pub state_of : ℕ → List Event → List ℕ
state_of p [] = codes "running"
state_of p (Ended q ∷ es) = if q == p then codes "ended" else state_of p es
state_of p (Halted q ∷ es) = if q == p then codes "halted" else state_of p es
state_of p (Left q ∷ es) = if q == p then codes "left" else state_of p es
state_of p (event ∷ es) = state_of p es

-- the jobs of 1..n that nobody has claimed, in rising order
abbrev pub unclaimed_jobs : ℕ → List Event → List ℕ
unclaimed_jobs n history = members n (λ j. not (has (claimed_jobs history) j))
