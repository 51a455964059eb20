-- The unclaimed and performed jobs of the object's state, counted from the events that lead to it.
use Rattle.std.proofs.Common.{◌≡◌, ℕ, ◌+◌, ◌<◌, ◌^◌, Bool, true, false, not, ◌&&◌, ◌||◌, List, [], ◌∷◌, length, refl, sym, ap, ◌∙◌, arith}
use Rattle.std.specs.Prelude.{◌==◌}
use Rattle.std.proofs.lemmas.List.{length_push}
use Rattle.amo_sets.specs.Sets.{has, AreDistinct}
use Rattle.amo_sets.proofs.Numbers.{length-table}
use Rattle.amo_sets.proofs.Removed.{has-without, length-without, distinct-without}
use Rattle.amo_sets.proofs.Tables.{has-numbers, distinct_numbers}
use Rattle.amo_params.specs.Givens.{IsJob}
use Rattle.amo_kk.specs.Object.{first_object, object_after}
use Rattle.amo_kk.specs.Run.{object_after_all, IsRun, claimed_jobs, done_jobs}
use Rattle.amo_params.specs.declared.givens.Givens.{Givens}
use Rattle.amo_kk.specs.declared.model.Object.{Object}
use Rattle.amo_kk.specs.declared.event.Event.{Event}
use Rattle.amo_kk.specs.declared.event.Event.TheVariants.{Claimed, Done, Ended, Halted, Left}
use Rattle.amo_kk.proofs.Claims.{claim_parts}
use Rattle.amo_kk.proofs.Room.{run_is_short}

unclaimed_after : (s : Object) (es : List Event) (j : ℕ) → has (object_after_all s es).unclaimed j ≡ (has s.unclaimed j && not (has (claimed_jobs es) j))
unclaimed_after s [] j = none (has s.unclaimed j)
  where
    none : (b : Bool) → b ≡ (b && not false)
    none true = refl
    none false = refl
unclaimed_after s (Claimed p i ∷ es) j =
    unclaimed_after (object_after s (Claimed p i)) es j
    ∙ ap (λ b. b && not (has (claimed_jobs es) j)) (has-without i s.unclaimed j)
    ∙ swap (i == j) (has s.unclaimed j) (has (claimed_jobs es) j)
  where
    swap : (a b c : Bool) → ((not a && b) && not c) ≡ (b && not (a || c))
    swap true true c = refl
    swap true false c = refl
    swap false true c = refl
    swap false false c = refl
unclaimed_after s (Done p i ∷ es) j = unclaimed_after (object_after s (Done p i)) es j
unclaimed_after s (Ended p ∷ es) j = unclaimed_after (object_after s (Ended p)) es j
unclaimed_after s (Halted p ∷ es) j = unclaimed_after (object_after s (Halted p)) es j
unclaimed_after s (Left p ∷ es) j = unclaimed_after (object_after s (Left p)) es j

-- unclaimed are just the jobs that no event claims
pub unclaimed_is : (g : Givens) (es : List Event) (j : ℕ) → IsJob g j → not (has (claimed_jobs es) j) ≡ has (object_after_all (first_object g) es).unclaimed j
unclaimed_is g es j o = sym (unclaimed_after (first_object g) es j ∙ ap (λ b. b && not (has (claimed_jobs es) j)) (has-numbers g.jobs j o.low o.high))

count_after : (g : Givens) (s : Object) (es : List Event) → AreDistinct s.unclaimed → IsRun g s es → length (object_after_all s es).unclaimed + length (claimed_jobs es) ≡ length s.unclaimed
count_after g s [] d run = omega arith
count_after g s (Claimed p j ∷ es) d run =
    let rest = count_after g (object_after s (Claimed p j)) es (distinct-without j s.unclaimed d) run.1 in
    let one = length-without j s.unclaimed d (claim_parts g s p j run.0).1 in
    omega arith
count_after g s (Done p i ∷ es) d run = count_after g (object_after s (Done p i)) es d run.1
count_after g s (Ended p ∷ es) d run = count_after g (object_after s (Ended p)) es d run.1
count_after g s (Halted p ∷ es) d run = count_after g (object_after s (Halted p)) es d run.1
count_after g s (Left p ∷ es) d run = count_after g (object_after s (Left p)) es d run.1

-- after a run, so many are unclaimed as were not claimed
pub unclaimed_count : (g : Givens) (es : List Event) → IsRun g (first_object g) es → length (object_after_all (first_object g) es).unclaimed + length (claimed_jobs es) ≡ g.jobs
unclaimed_count g es run = count_after g (first_object g) es (distinct_numbers g.jobs) run ∙ length-table (λ i. i) g.jobs

performed_after : (s : Object) (es : List Event) → length (object_after_all s es).performed ≡ length s.performed + length (done_jobs es)
performed_after s [] = omega arith
performed_after s (Claimed p i ∷ es) = performed_after (object_after s (Claimed p i)) es
performed_after s (Done p i ∷ es) = let rest = performed_after (object_after s (Done p i)) es in let one = length_push s.performed (p, i) in omega arith
performed_after s (Ended p ∷ es) = performed_after (object_after s (Ended p)) es
performed_after s (Halted p ∷ es) = performed_after (object_after s (Halted p)) es
performed_after s (Left p ∷ es) = performed_after (object_after s (Left p)) es

-- as many are performed as dones were shown
pub performed_count : (g : Givens) (es : List Event) → length (done_jobs es) ≡ length (object_after_all (first_object g) es).performed
performed_count g es = let all : length (object_after_all (first_object g) es).performed ≡ 0 + length (done_jobs es) = performed_after (first_object g) es in omega arith

-- a run is so short that its length and its counts fit into 32 bits
pub run_fits : (g : Givens) (es : List Event) → IsRun g (first_object g) es → length es < 2 ^ 32
run_fits g es run =
    let short = run_is_short g es run in
    let jobs = g.limits.few_jobs in
    let workers = g.limits.few_workers in
    omega arith
