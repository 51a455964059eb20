-- No reason that comes before the one in the verdict holds.
use Rattle.std.proofs.Common.{◌≡◌, ℕ, Bool, true, false, ◌&&◌, not, List, length, Option, Some, None, IfSome, ap, subst, ◌∙◌}
use Rattle.std.specs.Prelude.{option_map, ⊤}
use Rattle.std.specs.Option.{is_some, option_or}
use Rattle.std.proofs.lemmas.Bool.{cond_both}
use Rattle.amo_sets.specs.Lists.{numbered}
use Rattle.amo_params.specs.Givens.{bound, IsJob, IsWorker, is_within}
use Rattle.amo_kk.specs.Object.{first_object, is_here, has_in_hand}
use Rattle.amo_kk.specs.Run.{object_after_all, done_jobs}
use Rattle.amo_kk.specs.declared.event.Event.{Event}
use Rattle.amo_kk.specs.declared.event.Event.TheVariants.{Claimed, Done, Ended, Halted, Left}
use Rattle.amo_params.specs.declared.givens.Givens.{Givens}
use Rattle.amo_kk.proofs.Again.{within_job}
use Rattle.amo_judge.specs.Telling.{worker_of}
use Rattle.amo_judge.specs.Why.{end_of, claim_of, hand_of, gone_reason, hand_reason, claim_reason, reason_here, reason_of}
use Rattle.amo_judge.specs.declared.reasons.Reason.{Reason}
use Rattle.amo_judge.specs.declared.reasons.Reason.TheVariants.{NoWorker, Gone, NoJob, InHand, NotInHand, ClaimedBefore, Early}
use Rattle.amo_judge.proofs.Found.{within_worker, gone_found, hand_free}
use Rattle.amo_judge.proofs.Told.{either}

-- the facts that hold with each reason, since the reasons before it don't hold
abbrev pub Passed : Givens → List Event → Event → Reason → Type 0
Passed g before event (NoWorker p) = ⊤
Passed g before event (Gone p end i) = IsWorker g p
Passed g before event (NoJob j) = is_here g (object_after_all (first_object g) before) (worker_of event) ≡ true
Passed g before event (InHand p j i) = (is_here g (object_after_all (first_object g) before) p ≡ true) × ((job : ℕ) → event ≡ Claimed p job → IsJob g job)
Passed g before event (NotInHand p j) = (is_here g (object_after_all (first_object g) before) p ≡ true) × IsJob g j
Passed g before event (ClaimedBefore j q i) =
    (is_here g (object_after_all (first_object g) before) (worker_of event) ≡ true) × IsJob g j × (has_in_hand (object_after_all (first_object g) before) (worker_of event) 0 ≡ true)
Passed g before event (Early performed least) =
    (is_here g (object_after_all (first_object g) before) (worker_of event) ≡ true) × (has_in_hand (object_after_all (first_object g) before) (worker_of event) 0 ≡ true)

of_any : {A : Type 0} (make : A → Reason) (Q : Reason → Type 0) (o : Option A) → ((x : A) → Q (make x)) → IfSome (option_map make o) Q
of_any make Q None f = tt
of_any make Q (Some x) f = f x

is_there : (g : Givens) (before : List Event) (p : ℕ) → is_within g.workers p ≡ true → is_some (gone_reason p before) ≡ false → is_here g (object_after_all (first_object g) before) p ≡ true
is_there g before p here stays =
    let gone = numbered true (object_after_all (first_object g) before).gone p in
    ap (λ (b : Bool). b && not gone) here ∙ ap (λ (b : Bool). true && not b) (gone_found g before p (within_worker g p here) ∙ stays)

same_job : {p j q i : ℕ} → Claimed p j ≡ Claimed q i → j ≡ i
same_job e = cc

no_claim_ended : {p q i : ℕ} → Ended p ≡ Claimed q i → ⊥
no_claim_ended e = cc

no_claim_left : {p q i : ℕ} → Left p ≡ Claimed q i → ⊥
no_claim_left e = cc

hand_passed : (g : Givens) (before : List Event) (event : Event) (p : ℕ) → is_here g (object_after_all (first_object g) before) p ≡ true → ((job : ℕ) → event ≡ Claimed p job → IsJob g job)
    → IfSome (hand_reason p before) (Passed g before event)
hand_passed g before event p there job = of_any (λ (found : ℕ × ℕ). InHand p found.0 found.1) (Passed g before event) (hand_of p before) (λ found. (there, job))

here_passed : (g : Givens) (before : List Event) (event : Event) → is_within g.workers (worker_of event) ≡ true → is_some (gone_reason (worker_of event) before) ≡ false
    → IfSome (reason_here g before event) (Passed g before event)
here_passed g before (Claimed p j) here stays =
    let there = is_there g before p here stays in
    cond_both (is_within g.jobs j) (option_or (hand_reason p before) (claim_reason j before)) (Some (NoJob j)) (λ (o : Option Reason). IfSome o (Passed g before (Claimed p j)))
    (λ job. either (hand_reason p before) (claim_reason j before) (Passed g before (Claimed p j))
    (hand_passed g before (Claimed p j) p there (λ other same. subst (λ (i : ℕ). IsJob g i) (same_job same) (within_job g j job)))
    (λ free. of_any (λ (found : ℕ × Event). ClaimedBefore j (worker_of found.1) found.0) (Passed g before (Claimed p j)) (claim_of j before)
    (λ found. (there, within_job g j job, hand_free g before p (within_worker g p here) free))))
    (λ out. there)
here_passed g before (Done p j) here stays =
    let there = is_there g before p here stays in
    cond_both (is_within g.jobs j) (Some (NotInHand p j)) (Some (NoJob j)) (λ (o : Option Reason). IfSome o (Passed g before (Done p j)))
    (λ job. (there, within_job g j job))
    (λ out. there)
here_passed g before (Ended p) here stays =
    let there = is_there g before p here stays in
    either (hand_reason p before) (Some (Early (length (done_jobs before)) (bound g))) (Passed g before (Ended p))
    (hand_passed g before (Ended p) p there (λ job same. absurd (no_claim_ended same)))
    (λ free. (there, hand_free g before p (within_worker g p here) free))
here_passed g before (Halted p) here stays = tt
here_passed g before (Left p) here stays = hand_passed g before (Left p) p (is_there g before p here stays) (λ job same. absurd (no_claim_left same))

all_passed : (g : Givens) (before : List Event) (event : Event) → IfSome (reason_of g before (worker_of event) event) (Passed g before event)
all_passed g before event =
    let p = worker_of event in
    cond_both (is_within g.workers p) (option_or (gone_reason p before) (reason_here g before event)) (Some (NoWorker p)) (λ (o : Option Reason). IfSome o (Passed g before event))
    (λ here. either (gone_reason p before) (reason_here g before event) (Passed g before event)
    (of_any (λ (found : ℕ × Event). Gone p found.1 found.0) (Passed g before event) (end_of p before) (λ found. within_worker g p here)) (here_passed g before event here))
    (λ out. tt)

pub passed : (g : Givens) (before : List Event) (event : Event) (reason : Reason) → reason_of g before (worker_of event) event ≡ Some reason → Passed g before event reason
passed g before event reason is = subst (λ (o : Option Reason). IfSome o (Passed g before event)) is (all_passed g before event)
