-- The facts that a reason names hold.
use Rattle.std.proofs.Common.{◌≡◌, ◌≢◌, ◌⊎◌, inl, inr, ℕ, zero, suc, ◌+◌, ◌-◌, ◌<◌, ◌≤◌, Bool, true, false, ◌&&◌, List, [], ◌∷◌, length, slice_get, Option, Some, None, IfSome, refl, sym, ap, subst, ◌∙◌, arith}
use Rattle.std.specs.Prelude.{nat_le, ◌==◌, if◌then◌else◌, option_map}
use Rattle.std.specs.Option.{is_some, option_or}
use Rattle.std.proofs.lemmas.Bool.{true≢false, and_from, cond_both, le-leb, leb-false, eqb-true, eqb-false}
use Rattle.std.proofs.lemmas.Option.{none-some, same_Some, some_pair_parts}
use Rattle.amo_sets.specs.Lists.{numbered}
use Rattle.amo_params.specs.Givens.{bound, IsJob, IsWorker, is_within}
use Rattle.amo_kk.specs.Object.{first_object, is_step, has_in_hand}
use Rattle.amo_kk.specs.Run.{object_after_all, done_jobs}
use Rattle.amo_kk.specs.declared.event.Event.{Event}
use Rattle.amo_kk.specs.declared.event.Event.TheVariants.{Claimed, Done, Ended, Halted, Left}
use Rattle.amo_params.specs.declared.givens.Givens.{Givens}
use Rattle.amo_judge.specs.Judgement.{judgement, unlawful_lines}
use Rattle.amo_judge.specs.Places.{event_at}
use Rattle.amo_judge.specs.Results.{found_or}
use Rattle.amo_judge.specs.Telling.{event_text, worker_of}
use Rattle.amo_judge.specs.Verdicts.{IsUnlawfulText}
use Rattle.amo_judge.specs.Why.{is_end_of, is_claim_of, first_from, hand_from, hand_job, end_of, claim_of, hand_of, gone_reason, hand_reason, claim_reason, reason_here, reason_of, reason_text}
use Rattle.amo_judge.specs.declared.reasons.Reason.{Reason}
use Rattle.amo_judge.specs.declared.reasons.Reason.TheVariants.{NoWorker, Gone, NoJob, InHand, NotInHand, ClaimedBefore, Early}
use Rattle.amo_judge.proofs.Begins.{told_unlawful}
use Rattle.amo_judge.proofs.Found.{within_worker, hand_free, tests_fail, reason_found}
use Rattle.amo_judge.proofs.Searches.{hand_is, performed_is}

-- what each reason says; of a done and of an end by its own choice it is known that they are no
-- step
abbrev pub Says : Givens → List Event → Event → Reason → Type 0
Says g before event (NoWorker p) = (worker_of event ≡ p) × (IsWorker g p → ⊥)
Says g before event (Gone p end i) = (worker_of event ≡ p) × (event_at before i ≡ Some end) × ((end ≡ Ended p) ⊎ ((end ≡ Halted p) ⊎ (end ≡ Left p)))
Says g before event (NoJob j) = ((event ≡ Claimed (worker_of event) j) ⊎ (event ≡ Done (worker_of event) j)) × (IsJob g j → ⊥)
Says g before event (InHand p j i) =
    (worker_of event ≡ p) × (numbered 0 (object_after_all (first_object g) before).in_hand p ≡ j) × (event_at before i ≡ Some (Claimed p j))
    × ((later job : ℕ) → i < later → (event_at before later ≢ Some (Claimed p job)) × (event_at before later ≢ Some (Done p job)))
Says g before event (NotInHand p j) =
    is_step g (object_after_all (first_object g) before) event ≡ false → (event ≡ Done p j) × (numbered 0 (object_after_all (first_object g) before).in_hand p ≢ j)
Says g before event (ClaimedBefore j q i) = (event ≡ Claimed (worker_of event) j) × (event_at before i ≡ Some (Claimed q j))
Says g before event (Early performed least) =
    is_step g (object_after_all (first_object g) before) event ≡ false
    → (event ≡ Ended (worker_of event)) × (length (object_after_all (first_object g) before).performed ≡ performed) × (least ≡ bound g) × (performed < least)

-- the event of a number

at_number : (es : List Event) (place i : ℕ) (e : Event) → 1 + place ≡ i → slice_get es place ≡ Some e → event_at es i ≡ Some e
at_number es place i e number stands = let is : i ≡ suc place = omega (arith, number) in ap (event_at es) is ∙ stands

-- the first event that passes a test

record IsFound (test : Event → Bool) (first : ℕ) (es : List Event) (found : ℕ × Event) : Type 0 where
  pub place : ℕ
  pub number : first + place ≡ found.0
  pub stands : slice_get es place ≡ Some found.1
  pub passes : test found.1 ≡ true

if_found : {A : Type 0} (P Q : A → Type 0) (o : Option A) → ((x : A) → P x → Q x) → IfSome o P → IfSome o Q
if_found P Q None f h = tt
if_found P Q (Some x) f h = f x h

found_from : (test : Event → Bool) (first : ℕ) (es : List Event) → IfSome (first_from test first es) (IsFound test first es)
found_from test first [] = tt
found_from test first (e ∷ es) =
    cond_both {A = Option (ℕ × Event)} (test e) (Some (first, e)) (first_from test (first + 1) es) (λ (o : Option (ℕ × Event)). IfSome o (IsFound test first (e ∷ es)))
    (λ passes. record { place = 0; number = omega arith; stands = refl; passes = passes })
    (λ fails. if_found (IsFound test (first + 1) es) (IsFound test first (e ∷ es)) (first_from test (first + 1) es)
    (λ found f. record { place = suc f.place; number = omega (arith, f.number); stands = f.stands; passes = f.passes }) (found_from test (first + 1) es))

end_is : (p : ℕ) (e : Event) → is_end_of p e ≡ true → (e ≡ Ended p) ⊎ ((e ≡ Halted p) ⊎ (e ≡ Left p))
end_is p (Claimed q j) is = absurd (true≢false (sym is))
end_is p (Done q j) is = absurd (true≢false (sym is))
end_is p (Ended q) is = inl (ap Ended (eqb-true q p is))
end_is p (Halted q) is = inr (inl (ap Halted (eqb-true q p is)))
end_is p (Left q) is = inr (inr (ap Left (eqb-true q p is)))

claim_is : (j : ℕ) (e : Event) → is_claim_of j e ≡ true → e ≡ Claimed (worker_of e) j
claim_is j (Claimed q i) is = ap (Claimed q) (eqb-true i j is)
claim_is j (Done q i) is = absurd (true≢false (sym is))
claim_is j (Ended q) is = absurd (true≢false (sym is))
claim_is j (Halted q) is = absurd (true≢false (sym is))
claim_is j (Left q) is = absurd (true≢false (sym is))

-- the last event that changed what is in a hand

abbrev LeavesHand : ℕ → List Event → Type 0
LeavesHand p es = (place job : ℕ) → (slice_get es place ≢ Some (Claimed p job)) × (slice_get es place ≢ Some (Done p job))

record IsClaim (p first : ℕ) (es : List Event) (found : ℕ × ℕ) : Type 0 where
  pub place : ℕ
  pub number : first + place ≡ found.1
  pub stands : slice_get es place ≡ Some (Claimed p found.0)
  pub later : (other job : ℕ) → place < other → (slice_get es other ≢ Some (Claimed p job)) × (slice_get es other ≢ Some (Done p job))

-- it was in the hand and stays there, or was claimed by one of these events
abbrev IsSince : ℕ → ℕ → List Event → Option (ℕ × ℕ) → ℕ × ℕ → Type 0
IsSince p first es hand found = ((hand ≡ Some found) × LeavesHand p es) ⊎ IsClaim p first es found

leaves_more : (p : ℕ) (e : Event) (es : List Event) → ((job : ℕ) → (Some e ≢ Some (Claimed p job)) × (Some e ≢ Some (Done p job))) → LeavesHand p es
    → (place job : ℕ) → (slice_get (e ∷ es) place ≢ Some (Claimed p job)) × (slice_get (e ∷ es) place ≢ Some (Done p job))
leaves_more p e es this rest zero job = this job
leaves_more p e es this rest (suc place) job = rest place job

one_later : (p first : ℕ) (e : Event) (es : List Event) (found : ℕ × ℕ) → IsClaim p (first + 1) es found → IsClaim p first (e ∷ es) found
one_later p first e es found c = record { place = suc c.place; number = omega (arith, c.number); stands = c.stands; later = later }
  where
    later : (other job : ℕ) → suc c.place < other → (slice_get (e ∷ es) other ≢ Some (Claimed p job)) × (slice_get (e ∷ es) other ≢ Some (Done p job))
    later zero job lt = absurd (omega (arith, lt))
    later (suc other) job lt = c.later other job (omega (arith, lt))

claimed_here : (p q j first : ℕ) (es : List Event) (found : ℕ × ℕ) → q ≡ p → ◌≡◌ {A = Option (ℕ × ℕ)} (Some (j, first)) (Some found) → LeavesHand p es
    → IsClaim p first (Claimed q j ∷ es) found
claimed_here p q j first es found its same leaves =
    let parts = some_pair_parts j found.0 first found.1 same in
    record {
      place = 0;
      number = omega (arith, parts.1);
      stands = ap (λ (x : ℕ). Some (Claimed x j)) its ∙ ap (λ (x : ℕ). Some (Claimed p x)) parts.0;
      later = later;
    }
  where
    later : (other job : ℕ) → 0 < other → (slice_get (Claimed q j ∷ es) other ≢ Some (Claimed p job)) × (slice_get (Claimed q j ∷ es) other ≢ Some (Done p job))
    later zero job lt = absurd (omega (arith, lt))
    later (suc other) job lt = leaves other job

-- whose claim or done an event is

abbrev claimer : Option Event → Option ℕ
claimer None = None
claimer (Some (Claimed q j)) = Some q
claimer (Some e) = None

abbrev doer : Option Event → Option ℕ
doer None = None
doer (Some (Done q j)) = Some q
doer (Some e) = None

neither : (p : ℕ) (e : Event) → (claimer (Some e) ≢ Some p) → (doer (Some e) ≢ Some p) → (job : ℕ) → (Some e ≢ Some (Claimed p job)) × (Some e ≢ Some (Done p job))
neither p e no_claim no_done job = (λ is. no_claim (ap claimer is), λ is. no_done (ap doer is))

another : (q p : ℕ) → (q == p) ≡ false → Some q ≢ Some p
another q p differs = λ is. eqb-false q p differs (same_Some q p is)

after_claim : (b : Bool) (p q j first : ℕ) (es : List Event) (hand : Option (ℕ × ℕ)) (found : ℕ × ℕ) → (q == p) ≡ b
    → ◌≡◌ {A = Option (ℕ × ℕ)} (if b then Some (j, first) else hand) (Some found) → LeavesHand p es → IsSince p first (Claimed q j ∷ es) hand found
after_claim true p q j first es hand found its same leaves = inr (claimed_here p q j first es found (eqb-true q p its) same leaves)
after_claim false p q j first es hand found its same leaves =
    inl (same, leaves_more p (Claimed q j) es (neither p (Claimed q j) (another q p its) (none-some p)) leaves)

after_done : (b : Bool) (p q j first : ℕ) (es : List Event) (hand : Option (ℕ × ℕ)) (found : ℕ × ℕ) → (q == p) ≡ b → (if b then None else hand) ≡ Some found → LeavesHand p es → IsSince p first (Done q j ∷ es) hand found
after_done true p q j first es hand found its same leaves = absurd (none-some found same)
after_done false p q j first es hand found its same leaves =
    inl (same, leaves_more p (Done q j) es (neither p (Done q j) (none-some p) (another q p its)) leaves)

after_other : (p first : ℕ) (e : Event) (es : List Event) (hand : Option (ℕ × ℕ)) (found : ℕ × ℕ) → claimer (Some e) ≡ None → doer (Some e) ≡ None → IsSince p (first + 1) es hand found → IsSince p first (e ∷ es) hand found
after_other p first e es hand found no_claim no_done (inl stays) =
    inl (stays.0, leaves_more p e es (neither p e (λ is. none-some p (sym no_claim ∙ is)) (λ is. none-some p (sym no_done ∙ is))) stays.1)
after_other p first e es hand found no_claim no_done (inr c) = inr (one_later p first e es found c)

hand_since : (p first : ℕ) (es : List Event) (hand : Option (ℕ × ℕ)) (found : ℕ × ℕ) → hand_from p hand first es ≡ Some found → IsSince p first es hand found
hand_since p first [] hand found is = inl (is, λ place job. (none-some (Claimed p job), none-some (Done p job)))
hand_since p first (Claimed q j ∷ es) hand found is =
    elim (hand_since p (first + 1) es (if q == p then Some (j, first) else hand) found is) [
      | inl stays ↦ after_claim (q == p) p q j first es hand found refl stays.0 stays.1
      | inr c ↦ inr (one_later p first (Claimed q j) es found c)
    ]
hand_since p first (Done q j ∷ es) hand found is =
    elim (hand_since p (first + 1) es (if q == p then None else hand) found is) [
      | inl stays ↦ after_done (q == p) p q j first es hand found refl stays.0 stays.1
      | inr c ↦ inr (one_later p first (Done q j) es found c)
    ]
hand_since p first (Ended q ∷ es) hand found is = after_other p first (Ended q) es hand found refl refl (hand_since p (first + 1) es hand found is)
hand_since p first (Halted q ∷ es) hand found is = after_other p first (Halted q) es hand found refl refl (hand_since p (first + 1) es hand found is)
hand_since p first (Left q ∷ es) hand found is = after_other p first (Left q) es hand found refl refl (hand_since p (first + 1) es hand found is)

claimed_at : (p : ℕ) (before : List Event) (found : ℕ × ℕ) → hand_of p before ≡ Some found → IsClaim p 1 before found
claimed_at p before found is = elim (hand_since p 1 before None found is) [ inl stays ↦ absurd (none-some found stays.0) | inr c ↦ c ]

later_at : (p : ℕ) (before : List Event) (found : ℕ × ℕ) → IsClaim p 1 before found → (later job : ℕ) → found.1 < later → (event_at before later ≢ Some (Claimed p job)) × (event_at before later ≢ Some (Done p job))
later_at p before found c zero job lt = absurd (omega (arith, lt))
later_at p before found c (suc place) job lt = c.later place job (omega (arith, lt, c.number))

-- who and what is there

no_worker : (g : Givens) (p : ℕ) → is_within g.workers p ≡ false → IsWorker g p → ⊥
no_worker g p out w = true≢false (sym (and_from (nat_le 1 p) (nat_le p g.workers) (le-leb 1 p w.low) (le-leb p g.workers w.high)) ∙ out)

no_job : (g : Givens) (j : ℕ) → is_within g.jobs j ≡ false → IsJob g j → ⊥
no_job g j out w = true≢false (sym (and_from (nat_le 1 j) (nat_le j g.jobs) (le-leb 1 j w.low) (le-leb j g.jobs w.high)) ∙ out)

-- what each search finds

itself : {A : Type 0} (o : Option A) → IfSome o (λ x. o ≡ Some x)
itself None = tt
itself (Some x) = refl

of_found : {A : Type 0} (make : A → Reason) (P : A → Type 0) (Q : Reason → Type 0) (o : Option A) → ((x : A) → P x → Q (make x)) → IfSome o P → IfSome (option_map make o) Q
of_found make P Q None f h = tt
of_found make P Q (Some x) f h = f x h

gone_so : (g : Givens) (before : List Event) (event : Event) → IfSome (gone_reason (worker_of event) before) (Says g before event)
gone_so g before event =
    let p = worker_of event in
    of_found (λ (found : ℕ × Event). Gone p found.1 found.0) (IsFound (is_end_of p) 1 before) (Says g before event) (end_of p before)
    (λ found f. (refl, at_number before f.place found.0 found.1 f.number f.stands, end_is p found.1 f.passes)) (found_from (is_end_of p) 1 before)

hand_so : (g : Givens) (before : List Event) (event : Event) → IsWorker g (worker_of event) → IfSome (hand_reason (worker_of event) before) (Says g before event)
hand_so g before event w =
    let p = worker_of event in
    of_found (λ (found : ℕ × ℕ). InHand p found.0 found.1) (λ (found : ℕ × ℕ). hand_of p before ≡ Some found) (Says g before event) (hand_of p before)
    (λ found is. let c = claimed_at p before found is in
    (refl, hand_is g before p w ∙ ap hand_job is, at_number before c.place found.1 (Claimed p found.0) c.number c.stands, later_at p before found c)) (itself (hand_of p before))

claim_so : (g : Givens) (before : List Event) (p j : ℕ) → IfSome (claim_reason j before) (Says g before (Claimed p j))
claim_so g before p j =
    of_found (λ (found : ℕ × Event). ClaimedBefore j (worker_of found.1) found.0) (IsFound (is_claim_of j) 1 before) (Says g before (Claimed p j)) (claim_of j before)
    (λ found f. (refl, at_number before f.place found.0 found.1 f.number f.stands ∙ ap (λ (e : Event). Some e) (claim_is j found.1 f.passes))) (found_from (is_claim_of j) 1 before)

done_so : (g : Givens) (before : List Event) (p j : ℕ) → is_within g.workers p ≡ true → is_some (gone_reason p before) ≡ false → is_within g.jobs j ≡ true → Says g before (Done p j) (NotInHand p j)
done_so g before p j here stays job =
    λ fails.
    let hand = has_in_hand (object_after_all (first_object g) before) p j in
    let other : hand ≡ false = sym (ap (λ (b : Bool). b && hand) job) ∙ tests_fail g before p (is_within g.jobs j && hand) here stays fails in
    (refl, eqb-false (numbered 0 (object_after_all (first_object g) before).in_hand p) j other)

short : (jobs beta workers performed : ℕ) → 1 ≤ workers → workers ≤ beta → performed + beta + workers < jobs + 2 → performed < jobs - (beta + workers - 2)
short jobs beta workers performed some low few = omega (arith, some, low, few)

early_so : (g : Givens) (before : List Event) (p : ℕ) → is_within g.workers p ≡ true → is_some (gone_reason p before) ≡ false → is_some (hand_reason p before) ≡ false
    → Says g before (Ended p) (Early (length (done_jobs before)) (bound g))
early_so g before p here stays empty =
    λ fails.
    let s = object_after_all (first_object g) before in
    let late = nat_le (g.jobs + 2) (length s.performed + g.beta + g.workers) in
    let early : late ≡ false =
    sym (ap (λ (b : Bool). b && late) (hand_free g before p (within_worker g p here) empty)) ∙ tests_fail g before p (has_in_hand s p 0 && late) here stays fails in
    let few : length s.performed + g.beta + g.workers < g.jobs + 2 = leb-false (g.jobs + 2) (length s.performed + g.beta + g.workers) early in
    let same : length s.performed ≡ length (done_jobs before) = performed_is g before in
    (refl, same, refl, short g.jobs g.beta g.workers (length (done_jobs before)) g.limits.some g.limits.beta_low (omega (arith, few, same)))

-- the first of two reasons, if there is one

pub either : (a b : Option Reason) (P : Reason → Type 0) → IfSome a P → (is_some a ≡ false → IfSome b P) → IfSome (option_or a b) P
either None b P one other = other refl
either (Some r) b P one other = one

here_so : (g : Givens) (before : List Event) (event : Event) → is_within g.workers (worker_of event) ≡ true → is_some (gone_reason (worker_of event) before) ≡ false
    → IfSome (reason_here g before event) (Says g before event)
here_so g before (Claimed p j) here stays =
    cond_both (is_within g.jobs j) (option_or (hand_reason p before) (claim_reason j before)) (Some (NoJob j)) (λ (o : Option Reason). IfSome o (Says g before (Claimed p j)))
    (λ job. either (hand_reason p before) (claim_reason j before) (Says g before (Claimed p j)) (hand_so g before (Claimed p j) (within_worker g p here)) (λ free. claim_so g before p j))
    (λ out. (inl refl, no_job g j out))
here_so g before (Done p j) here stays =
    cond_both (is_within g.jobs j) (Some (NotInHand p j)) (Some (NoJob j)) (λ (o : Option Reason). IfSome o (Says g before (Done p j)))
    (λ job. done_so g before p j here stays job)
    (λ out. (inr refl, no_job g j out))
here_so g before (Ended p) here stays =
    either (hand_reason p before) (Some (Early (length (done_jobs before)) (bound g))) (Says g before (Ended p)) (hand_so g before (Ended p) (within_worker g p here))
    (λ empty. early_so g before p here stays empty)
here_so g before (Halted p) here stays = tt
here_so g before (Left p) here stays = hand_so g before (Left p) (within_worker g p here)

told : (g : Givens) (before : List Event) (event : Event) → IfSome (reason_of g before (worker_of event) event) (Says g before event)
told g before event =
    let p = worker_of event in
    cond_both (is_within g.workers p) (option_or (gone_reason p before) (reason_here g before event)) (Some (NoWorker p)) (λ (o : Option Reason). IfSome o (Says g before event))
    (λ here. either (gone_reason p before) (reason_here g before event) (Says g before event) (gone_so g before event) (here_so g before event here))
    (λ out. (refl, no_worker g p out))

-- what the reason of an event says is so
pub said : (g : Givens) (before : List Event) (event : Event) (reason : Reason) → reason_of g before (worker_of event) event ≡ Some reason → Says g before event reason
said g before event reason is = subst (λ (o : Option Reason). IfSome o (Says g before event)) is (told g before event)

-- and it is the one in the verdict

some_reason : (o : Option Reason) → is_some o ≡ true → (reason : Reason) × (o ≡ Some reason)
some_reason None is = absurd (true≢false (sym is))
some_reason (Some reason) is = (reason, refl)

pub tells_reason : (text : List ℕ) (number : ℕ) (t : IsUnlawfulText text number) → (reason : Reason)
    × (reason_of t.history.givens t.bad.before (worker_of t.bad.bad) t.bad.bad ≡ Some reason)
    × (judgement text ≡ unlawful_lines number (event_text t.history number t.bad.bad) (reason_text t.history reason))
tells_reason text number t =
    let h = t.history in
    let b = t.bad in
    let found = some_reason (reason_of h.givens b.before (worker_of b.bad) b.bad) (reason_found h.givens b.before b.bad b.refused) in (
      found.0,
      found.1,
      told_unlawful text number t
          ∙ ap (λ (o : Option Reason). unlawful_lines number (event_text h number b.bad) (found_or o (λ reason. reason_text h reason) [])) found.1,
    )
