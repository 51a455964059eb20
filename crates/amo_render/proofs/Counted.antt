-- The events that are counted, one by one, are those that the lists of jobs name.
use Rattle.std.proofs.Common.{◌≡◌, ℕ, ◌+◌, Bool, true, false, cond, List, ◌∷◌, length, count_by, refl, arith}
use Rattle.std.proofs.lemmas.List.Recursion.{is_count_by}
use Rattle.amo_kk.specs.Run.{claimed_jobs, done_jobs}
use Rattle.amo_kk.specs.declared.event.Event.{Event}
use Rattle.amo_kk.specs.declared.event.Event.TheVariants.{Claimed, Done}

-- a claim
abbrev pub is_claim : Event → Bool
is_claim (Claimed p j) = true
is_claim event = false

-- a performance
abbrev pub is_done : Event → Bool
is_done (Done p j) = true
is_done event = false

-- each event that passes adds one job to the list, and no other adds any
abbrev OneEach : (List Event → List ℕ) → (Event → Bool) → Type 0
OneEach jobs p = (e : Event) (es : List Event) → length (jobs (e ∷ es)) ≡ cond (p e) (1 + length (jobs es)) (length (jobs es))

each_claim : OneEach claimed_jobs is_claim
each_claim (Claimed p j) es = omega arith
each_claim event es = refl

each_done : OneEach done_jobs is_done
each_done (Done p j) es = omega arith
each_done event es = refl

pub claims_counted : (es : List Event) → length (claimed_jobs es) ≡ count_by is_claim es
claims_counted = is_count_by (λ es. length (claimed_jobs es)) is_claim refl each_claim

pub dones_counted : (es : List Event) → length (done_jobs es) ≡ count_by is_done es
dones_counted = is_count_by (λ es. length (done_jobs es)) is_done refl each_done
