-- An event that is no step has a reason.
use Rattle.std.proofs.Common.{◌≡◌, ℕ, Bool, true, false, ◌&&◌, not, List, length, Option, Some, None, refl, sym, ap, ◌∙◌}
use Rattle.std.specs.Prelude.{nat_le, ◌==◌, if◌then◌else◌, option_map}
use Rattle.std.specs.Option.{is_some, option_or}
use Rattle.std.proofs.lemmas.Bool.{true≢false, and_parts, leb-true}
use Rattle.amo_sets.specs.Lists.{numbered}
use Rattle.amo_sets.specs.Sets.{has}
use Rattle.amo_params.specs.Givens.{bound, IsWorker, is_within}
use Rattle.amo_kk.specs.Object.{first_object, is_step, is_here, has_in_hand}
use Rattle.amo_kk.specs.Run.{object_after_all, done_jobs}
use Rattle.amo_kk.specs.declared.event.Event.{Event}
use Rattle.amo_kk.specs.declared.event.Event.TheVariants.{Claimed, Done, Ended, Halted, Left}
use Rattle.amo_params.specs.declared.givens.Givens.{Givens}
use Rattle.amo_kk.proofs.Again.{within_job}
use Rattle.amo_judge.specs.Telling.{worker_of}
use Rattle.amo_judge.specs.Why.{end_of, claim_of, hand_of, hand_job, gone_reason, hand_reason, claim_reason, reason_here, reason_of}
use Rattle.amo_judge.specs.declared.reasons.Reason.{Reason}
use Rattle.amo_judge.specs.declared.reasons.Reason.TheVariants.{NoWorker, Gone, NoJob, InHand, NotInHand, ClaimedBefore, Early}
use Rattle.amo_judge.proofs.Searches.{gone_is, hand_is, unclaimed_is}

pub within_worker : (g : Givens) (p : ℕ) → is_within g.workers p ≡ true → IsWorker g p
within_worker g p h = let a = and_parts (nat_le 1 p) (nat_le p g.workers) h in record { low = leb-true 1 p a.0; high = leb-true p g.workers a.1 }

-- a search that finds nothing gives no reason, and one that finds something gives one

found_is : {A : Type 0} (f : A → Reason) (o : Option A) → is_some o ≡ is_some (option_map f o)
found_is f None = refl
found_is f (Some x) = refl

pub gone_found : (g : Givens) (before : List Event) (p : ℕ) → IsWorker g p → numbered true (object_after_all (first_object g) before).gone p ≡ is_some (gone_reason p before)
gone_found g before p w = gone_is g before p w ∙ found_is (λ found. Gone p found.1 found.0) (end_of p before)

empty : (hand : Option (ℕ × ℕ)) → is_some hand ≡ false → (hand_job hand == 0) ≡ true
empty None none = refl
empty (Some found) none = absurd (true≢false none)

pub hand_free : (g : Givens) (before : List Event) (p : ℕ) → IsWorker g p → is_some (hand_reason p before) ≡ false → has_in_hand (object_after_all (first_object g) before) p 0 ≡ true
hand_free g before p w none =
    ap (λ (j : ℕ). j == 0) (hand_is g before p w) ∙ empty (hand_of p before) (found_is (λ found. InHand p found.0 found.1) (hand_of p before) ∙ none)

job_free : (g : Givens) (before : List Event) (j : ℕ) → is_within g.jobs j ≡ true → has (object_after_all (first_object g) before).unclaimed j ≡ not (is_some (claim_reason j before))
job_free g before j w = unclaimed_is g before j (within_job g j w) ∙ ap not (found_is (λ found. ClaimedBefore j (worker_of found.1) found.0) (claim_of j before))

-- the tests of a step that are left once its worker is there

left_tests : (here gone tests : Bool) → here ≡ true → gone ≡ false → ((here && not gone) && tests) ≡ false → tests ≡ false
left_tests here gone tests is stays fails = sym (ap (λ (b : Bool). (b && not gone) && tests) is ∙ ap (λ (b : Bool). (true && not b) && tests) stays) ∙ fails

claim_tests : (job hand free : Bool) (a b : Option Reason) (x : Reason) → (is_some a ≡ false → hand ≡ true) → (job ≡ true → free ≡ not (is_some b)) → (job && (hand && free)) ≡ false → is_some (if job then option_or a b else Some x) ≡ true
claim_tests false hand free a b x empty unclaimed fails = refl
claim_tests true hand free (Some r) b x empty unclaimed fails = refl
claim_tests true hand free None (Some r) x empty unclaimed fails = refl
claim_tests true false free None None x empty unclaimed fails = empty refl
claim_tests true true free None None x empty unclaimed fails = sym fails ∙ unclaimed refl

leave_tests : (hand : Bool) (a : Option Reason) → (is_some a ≡ false → hand ≡ true) → hand ≡ false → is_some a ≡ true
leave_tests hand (Some r) empty fails = refl
leave_tests hand None empty fails = sym fails ∙ empty refl

any_job : (job : Bool) (x y : Reason) → is_some (if job then Some x else Some y) ≡ true
any_job true x y = refl
any_job false x y = refl

any_hand : (a : Option Reason) (x : Reason) → is_some (option_or a (Some x)) ≡ true
any_hand None x = refl
any_hand (Some r) x = refl

-- the worker is there, or there is a reason already

at_worker : (here : Bool) (a b : Option Reason) (x : Reason) → (here ≡ true → is_some a ≡ false → is_some b ≡ true) → is_some (if here then option_or a b else Some x) ≡ true
at_worker false a b x rest = refl
at_worker true (Some r) b x rest = refl
at_worker true None b x rest = rest refl refl

pub tests_fail : (g : Givens) (before : List Event) (p : ℕ) (tests : Bool) → is_within g.workers p ≡ true → is_some (gone_reason p before) ≡ false
    → (is_here g (object_after_all (first_object g) before) p && tests) ≡ false → tests ≡ false
tests_fail g before p tests here stays fails =
    left_tests (is_within g.workers p) (numbered true (object_after_all (first_object g) before).gone p) tests here (gone_found g before p (within_worker g p here) ∙ stays) fails

none_halted : (g : Givens) (before : List Event) (p : ℕ) → is_within g.workers p ≡ true → is_some (gone_reason p before) ≡ false
    → is_here g (object_after_all (first_object g) before) p ≡ false → false ≡ true
none_halted g before p here stays fails =
    let gone = numbered true (object_after_all (first_object g) before).gone p in
    sym fails ∙ ap (λ (b : Bool). b && not gone) here ∙ ap (λ (b : Bool). true && not b) (gone_found g before p (within_worker g p here) ∙ stays)

pub reason_found : (g : Givens) (before : List Event) (event : Event) → is_step g (object_after_all (first_object g) before) event ≡ false → is_some (reason_of g before (worker_of event) event) ≡ true
reason_found g before (Claimed p j) fails =
    let s = object_after_all (first_object g) before in
    at_worker (is_within g.workers p) (gone_reason p before) (reason_here g before (Claimed p j)) (NoWorker p)
    (λ here stays. claim_tests (is_within g.jobs j) (has_in_hand s p 0) (has s.unclaimed j) (hand_reason p before) (claim_reason j before) (NoJob j)
    (hand_free g before p (within_worker g p here)) (job_free g before j)
    (tests_fail g before p (is_within g.jobs j && (has_in_hand s p 0 && has s.unclaimed j)) here stays fails))
reason_found g before (Done p j) fails =
    at_worker (is_within g.workers p) (gone_reason p before) (reason_here g before (Done p j)) (NoWorker p)
    (λ here stays. any_job (is_within g.jobs j) (NotInHand p j) (NoJob j))
reason_found g before (Ended p) fails =
    at_worker (is_within g.workers p) (gone_reason p before) (reason_here g before (Ended p)) (NoWorker p)
    (λ here stays. any_hand (hand_reason p before) (Early (length (done_jobs before)) (bound g)))
reason_found g before (Halted p) fails =
    at_worker (is_within g.workers p) (gone_reason p before) (reason_here g before (Halted p)) (NoWorker p)
    (λ here stays. none_halted g before p here stays fails)
reason_found g before (Left p) fails =
    let s = object_after_all (first_object g) before in
    at_worker (is_within g.workers p) (gone_reason p before) (reason_here g before (Left p)) (NoWorker p)
    (λ here stays. leave_tests (has_in_hand s p 0) (hand_reason p before) (hand_free g before p (within_worker g p here))
    (tests_fail g before p (has_in_hand s p 0) here stays fails))
