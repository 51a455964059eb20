-- There are histories: two workers and two jobs; a process dies while its partner performs a job,
-- and the next one of its worker in a store that comes about. In another one a job is found taken,
-- and filed, and the other job is performed.
use Rattle.std.proofs.Common.{◌≡◌, true, false, refl, arith, List, [], ◌∷◌, ◌++◌}
use Rattle.amo_params.specs.Givens.{IsWorker}
use Rattle.amo_params.specs.Limits.{within_limits}
use Rattle.amo_params.specs.declared.givens.Givens.{Givens}
use Rattle.amo_driver.specs.declared.answer.JobResult.TheVariants.{Done, Unbegun}
use Rattle.amo_driver.specs.declared.answer.Reply.TheVariants.{Answered}
use Rattle.amo_driver.specs.declared.answer.Way.TheVariants.{Go}
use Rattle.amo_driver.specs.declared.model.Deed.TheVariants.{Loaded, Stored, Found, Intended, Cleared, Performed, Noted}
use Rattle.amo_driver.specs.declared.model.Try.TheVariants.{Store, Perform}
use Rattle.amo_driver_safety.specs.Scene.{IsHistory, handed_jobs}
use Rattle.amo_driver_safety.specs.declared.model.Moment.{Moment}
use Rattle.amo_driver_safety.specs.declared.model.Moment.TheVariants.{Does, Loses, Begins}
use Rattle.amo_driver_safety.proofs.Chains.{◌▸◌}

abbrev pub two_and_two : Givens
two_and_two = record { jobs = 2; workers = 2; beta = 2; limits = within_limits 2 2 2 refl }

first_worker : IsWorker two_and_two 1
first_worker = record { low = omega arith; high = omega arith }

second_worker : IsWorker two_and_two 2
second_worker = record { low = omega arith; high = omega arith }

abbrev pub moments : List Moment
moments =
    Begins 1 1 ∷
    Begins 2 5 ∷
    Does 1 (Loaded 1 0) ∷
    Does 1 (Loaded 3 0) ∷
    Does 1 (Loaded 5 0) ∷
    Does 1 (Stored 1 1) ∷
    Does 1 (Loaded 2 0) ∷
    Does 2 (Loaded 2 0) ∷
    Does 2 (Loaded 4 0) ∷
    Does 2 (Loaded 8 0) ∷
    Does 1 (Loaded 8 0) ∷
    Does 1 (Stored 3 1) ∷
    Does 1 (Intended 1 1) ∷
    Does 1 (Cleared 1 1 true) ∷
    Does 1 (Performed 1 1 (Answered 1 (Done 0) Go)) ∷
    Does 1 (Noted 1 (Done 0)) ∷
    Does 1 (Stored 5 1) ∷
    Does 2 (Stored 2 2) ∷
    Does 2 (Loaded 1 1) ∷
    Does 2 (Loaded 5 1) ∷
    Does 2 (Loaded 6 0) ∷
    Does 2 (Stored 4 1) ∷
    Does 2 (Intended 5 2) ∷
    Does 2 (Cleared 5 2 true) ∷
    Loses 2 (Perform 5 2) ∷
    Begins 2 6 ∷
    Does 2 (Loaded 2 2) ∷
    Does 2 (Loaded 4 1) ∷
    Does 2 (Loaded 8 0) ∷
    Does 2 (Found 2) ∷
    Loses 2 (Store 8 2) ∷
    Begins 2 6 ∷
    Does 2 (Loaded 2 2) ∷
    Does 2 (Loaded 4 1) ∷
    Does 2 (Loaded 8 2) ∷
    Does 2 (Loaded 9 0) ∷ []

pub is_history : IsHistory two_and_two moments
is_history =
    first_worker ▸
    second_worker ▸
    (first_worker, refl, refl) ▸ (first_worker, refl, refl) ▸ (first_worker, refl, refl) ▸
    (first_worker, refl, tt) ▸ (first_worker, refl, refl) ▸
    (second_worker, refl, refl) ▸ (second_worker, refl, refl) ▸ (second_worker, refl, refl) ▸
    (first_worker, refl, refl) ▸
    (first_worker, refl, tt) ▸ (first_worker, refl, tt) ▸ (first_worker, refl, tt) ▸ (first_worker, refl, tt) ▸
    (first_worker, refl, tt) ▸ (first_worker, refl, tt) ▸
    (second_worker, refl, tt) ▸
    (second_worker, refl, refl) ▸ (second_worker, refl, refl) ▸ (second_worker, refl, refl) ▸
    (second_worker, refl, tt) ▸ (second_worker, refl, tt) ▸ (second_worker, refl, tt) ▸
    (second_worker, refl) ▸
    second_worker ▸
    (second_worker, refl, refl) ▸ (second_worker, refl, refl) ▸ (second_worker, refl, refl) ▸
    (second_worker, refl, tt) ▸ (second_worker, refl) ▸
    second_worker ▸
    (second_worker, refl, refl) ▸ (second_worker, refl, refl) ▸ (second_worker, refl, refl) ▸ (second_worker, refl, refl) ▸
    tt

pub handed : handed_jobs moments ≡ 1 ∷ 2 ∷ []
handed = refl

abbrev pub before_taking : List Moment
before_taking =
    Begins 1 1 ∷
    Begins 2 5 ∷
    Does 1 (Loaded 1 0) ∷
    Does 1 (Loaded 3 0) ∷
    Does 1 (Loaded 5 0) ∷
    Does 1 (Stored 1 1) ∷
    Does 1 (Loaded 2 0) ∷
    Does 2 (Loaded 2 0) ∷
    Does 2 (Loaded 4 0) ∷
    Does 2 (Loaded 8 0) ∷
    Does 1 (Loaded 8 0) ∷
    Does 1 (Stored 3 1) ∷
    Does 1 (Intended 1 1) ∷ []

abbrev pub after_taking : List Moment
after_taking =
    Does 1 (Noted 1 Unbegun) ∷
    Does 1 (Stored 5 1) ∷
    Does 2 (Stored 2 2) ∷
    Does 2 (Loaded 1 1) ∷
    Does 2 (Loaded 5 1) ∷
    Does 2 (Loaded 6 0) ∷
    Does 2 (Stored 4 1) ∷
    Does 2 (Intended 5 2) ∷
    Does 2 (Cleared 5 2 true) ∷
    Does 2 (Performed 5 2 (Answered 5 (Done 0) Go)) ∷ []

pub is_taken : IsHistory two_and_two (before_taking ++ Does 1 (Cleared 1 1 false) ∷ after_taking)
is_taken =
    first_worker ▸
    second_worker ▸
    (first_worker, refl, refl) ▸ (first_worker, refl, refl) ▸ (first_worker, refl, refl) ▸
    (first_worker, refl, tt) ▸ (first_worker, refl, refl) ▸
    (second_worker, refl, refl) ▸ (second_worker, refl, refl) ▸ (second_worker, refl, refl) ▸
    (first_worker, refl, refl) ▸
    (first_worker, refl, tt) ▸ (first_worker, refl, tt) ▸ (first_worker, refl, tt) ▸
    (first_worker, refl, tt) ▸ (first_worker, refl, tt) ▸
    (second_worker, refl, tt) ▸
    (second_worker, refl, refl) ▸ (second_worker, refl, refl) ▸ (second_worker, refl, refl) ▸
    (second_worker, refl, tt) ▸ (second_worker, refl, tt) ▸ (second_worker, refl, tt) ▸ (second_worker, refl, tt) ▸
    tt

pub handed_the_other : handed_jobs (before_taking ++ Does 1 (Cleared 1 1 false) ∷ after_taking) ≡ 2 ∷ []
handed_the_other = refl
