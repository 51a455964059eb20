-- In one course nothing follows an end. Each performance follows its clearance, which follows the
-- intent, which follows the store of the claim. Each note follows the answer, or the finding that
-- the job is taken.
use Rattle.std.proofs.Common.{◌≡◌, ◌⊎◌, inl, inr, ℕ, zero, suc, ◌+◌, ◌≤◌, arith, Bool, true, false, refl, sym, ap, ◌∙◌, subst, List, [], ◌∷◌, ◌++◌, length, append-nil, append_assoc, Option, Some, None}
use Rattle.std.specs.Prelude.{⊤, if◌then◌else◌, ◌==◌}
use Rattle.std.proofs.lemmas.Bool.{true≢false, eqb-true, eq-eqb}
use Rattle.std.proofs.lemmas.Option.{none-some}
use Rattle.amo_kk.specs.Step.{want_in}
use Rattle.amo_kk.specs.Words.{claim_word}
use Rattle.amo_params.specs.declared.givens.Givens.{Givens}
use Rattle.amo_process.specs.Heard.{told_by, doubted_by}
use Rattle.amo_process.specs.Stepped.{ProcessView, process_after, access_of, may_leave, is_refused}
use Rattle.amo_driver.specs.declared.answer.JobResult.{JobResult}
use Rattle.amo_driver.specs.declared.answer.JobResult.TheVariants.{Doubt}
use Rattle.amo_driver.specs.declared.answer.Reply.{Reply}
use Rattle.amo_driver.specs.declared.answer.Reply.TheVariants.{Answered, Running, Garbled, Closed}
use Rattle.amo_driver.specs.declared.answer.Way.{Way}
use Rattle.amo_driver.specs.declared.answer.Way.TheVariants.{Go, Leave}
use Rattle.amo_driver.specs.declared.model.Deed.{Deed}
use Rattle.amo_driver.specs.declared.model.Deed.TheVariants.{Loaded, Stored, Found, Intended, Cleared, Performed, Noted, Asked, Fell}
use Rattle.amo_driver.specs.declared.model.Try.{Try}
use Rattle.amo_driver.specs.declared.model.Try.TheVariants.{Load, Store, Find, Intend, Clear, Perform, Note, Ask}
use Rattle.amo_driver.specs.Stage.{Stage, Going, Intending, Clearing, Performing, Noting, Leaving, Asking, Settling, Unanswered, Refused, Broken}
use Rattle.amo_driver.specs.Course.{try_of, access_tried, due, stage_by_jobs, stage_heard, stage_told, stage_cleared, stage_replied, stage_after, stage_after_all, AreDue, first_stage}
use Rattle.amo_driver_safety.proofs.Logs.{stage_after_more}
use Rattle.amo_driver_safety.specs.Course.{HasJustClaimed, HasJustIntended, HasJustCleared, HasJustAnswered, HasJustFoundTaken}
use Rattle.amo_driver_safety.proofs.Stages.{word_in, value_in, job_in, serial_in, no_other, performing_at, clearing_at, process_of, hears_more, standing_is, access_is, Shown, all_shown}
use Rattle.amo_driver_safety.proofs.Claims.{IsClaiming, claim_wanted, was_claiming}

-- if nothing is due, nothing follows

pub ends_there : (s : Stage) (before after : List Deed) → AreDue s (before ++ after) → due (stage_after_all s before) ≡ None → after ≡ []
ends_there s [] [] h e = refl
ends_there s [] (d ∷ ds) h e = absurd (none-some (try_of d) (sym e ∙ h.0))
ends_there s (x ∷ xs) after h e = ends_there (stage_after s x) xs after h.1 e

pub fell_there : (s : Stage) (before after : List Deed) (t : Try) → AreDue s (before ++ Fell t ∷ after) → after ≡ []
fell_there s [] after t h = ends_there Broken [] after h.1 refl
fell_there s (x ∷ xs) after t h = fell_there (stage_after s x) xs after t h.1

-- tries of different kinds aren't the same

abbrev kind : Option Try → ℕ
kind None = 0
kind (Some (Load w)) = 1
kind (Some (Store w v)) = 2
kind (Some (Find j)) = 3
kind (Some (Intend n j)) = 4
kind (Some (Perform n j)) = 5
kind (Some (Note n c)) = 6
kind (Some (Ask n line)) = 7
kind (Some (Clear n j)) = 8

differ : (x y : Option Try) → x ≡ y → (kind x == kind y) ≡ false → ⊥
differ x y same other = true≢false (sym (eq-eqb (kind x) (kind y) (ap kind same)) ∙ other)

abbrev answer_in : Option Try → JobResult
answer_in (Some (Note n c)) = c
answer_in t = Doubt

-- a deed among others, each of which was due
pub due_among : (s : Stage) (before after : List Deed) (d : Deed) → AreDue s (before ++ d ∷ after)
    → AreDue s before × (due (stage_after_all s before) ≡ Some (try_of d)) × AreDue (stage_after (stage_after_all s before) d) after
due_among s [] after d h = (tt, h.0, h.1)
due_among s (x ∷ xs) after d h = let r = due_among (stage_after s x) xs after d h.1 in ((h.0, r.0), r.1, r.2)

module _ (g : Givens) (p s : ℕ) where
  abbrev first : Stage
  first = first_stage g p s

  -- The deeds that were done last when an intent, a clearance, a performance or a note is due. In
  -- such a course nothing is asked for.

  abbrev IsAfter : List Deed → Stage → Type 0
  IsAfter ds (Intending n a j) = HasJustClaimed g p first ds n j a
  IsAfter ds (Clearing n a j) = (earlier : List Deed) × (ds ≡ earlier ++ Intended n j ∷ []) × HasJustClaimed g p first earlier n j a
  IsAfter ds (Performing n a j) = (earlier : List Deed) × (ds ≡ earlier ++ Cleared n j true ∷ []) × HasJustIntended g p first earlier n j a
  IsAfter ds (Noting n a c way) = HasJustAnswered ds n c ⊎ HasJustFoundTaken ds n c
  IsAfter ds (Asking intents) = ⊥
  IsAfter ds (Settling n c way rest) = ⊥
  IsAfter ds s = ⊤

  -- a number was read, and the process may get a job by it

  module _ (ds : List Deed) (n : ℕ) (a : ProcessView) (came : (j : ℕ) → 1 ≤ j → told_by a.standing ≡ j → HasJustClaimed g p first ds n j a) where
    jobs_after : (t x : ℕ) → told_by a.standing ≡ t → IsAfter ds (stage_by_jobs n a t x)
    jobs_after zero zero e = tt
    jobs_after zero (suc j) e = tt
    jobs_after (suc j) x e = came (suc j) (omega arith) e

    heard_after : (way : Way) → IsAfter ds (stage_heard n way a)
    heard_after Go = jobs_after (told_by a.standing) (doubted_by a.standing) refl
    heard_after Leave = by (may_leave a.standing)
      where
        by : (b : Bool) → IsAfter ds (if b then Leaving a else Going n a Leave)
        by true = tt
        by false = tt

    told_after : (w v : ℕ) (way : Way) → IsAfter ds (stage_told w v n way a)
    told_after w v way = by (is_refused a.standing)
      where
        by : (b : Bool) → IsAfter ds (if b then Refused w v else stage_heard n way a)
        by true = tt
        by false = heard_after way

  -- the access by which it gets a job is the store of the claim
  module _ (hs : List ℕ) (a : ProcessView) (is : a ≡ process_of g p hs) (j : ℕ) where
    claiming : (v : ℕ) → 1 ≤ j → told_by (process_after a v).standing ≡ j → IsClaiming g p hs j
    claiming v some told = was_claiming g p hs v j some (sym (ap told_by (standing_is g p (hs ++ v ∷ []) (process_after a v) (hears_more g p hs a is v))) ∙ told)

    abbrev wanted_access : Option Try
    wanted_access = access_tried (access_of a.givens a.number a.standing)

    claim_due : (c : IsClaiming g p hs j) → wanted_access ≡ Some (Store (claim_word g p) (length c.machine.state.claimed + 1))
    claim_due c = ap access_tried (sym (access_is g p hs a is) ∙ claim_wanted g p hs j c)

    not_loaded : (c : IsClaiming g p hs j) (w : ℕ) → wanted_access ≡ Some (Load w) → ⊥
    not_loaded c w e = let due_here = claim_due c in cc

    by_claim : (c : IsClaiming g p hs j) (ds : List Deed) (n : ℕ) (way : Way) (w v : ℕ) → stage_after_all first ds ≡ Going n a way → wanted_access ≡ Some (Store w v)
        → told_by (process_after a 0).standing ≡ j → HasJustClaimed g p first (ds ++ Stored w v ∷ []) n j (process_after a 0)
    by_claim c ds n way w v at e told = record {
      earlier = ds;
      count = length c.machine.state.claimed + 1;
      is = λ i. let t = (sym e ∙ claim_due c) i in ds ++ Stored (word_in t) (value_in t) ∷ [];
      before = a;
      way = way;
      stood = at;
      machine = c.machine;
      fresh = c.fresh;
      standing = standing_is g p hs a is ∙ c.stands;
      wanted = ap (want_in c.machine.state) c.phase;
      after = refl;
      job = told;
    }

  -- this came in answer to intent m
  replied_after : (ds : List Deed) (m n j : ℕ) (a : ProcessView) (reply : Reply) → m ≡ n → IsAfter (ds ++ Performed n j reply ∷ []) (stage_replied m a reply)
  replied_after ds m n j a (Answered k c way) is = by (k == m) refl
    where
      by : (b : Bool) → (k == m) ≡ b → IsAfter (ds ++ Performed n j (Answered k c way) ∷ []) (if b then Noting m a c way else Unanswered m (Answered k c way))
      by true same = inl (record { earlier = ds; job = j; way = way; is = λ i. ds ++ Performed (sym is i) j (Answered (eqb-true k m same i) c way) ∷ [] })
      by false other = tt
  replied_after ds m n j a (Running k way) is = by (k == m)
    where
      by : (b : Bool) → IsAfter (ds ++ Performed n j (Running k way) ∷ []) (if b then Going (m + 1) a way else Unanswered m (Running k way))
      by true = tt
      by false = tt
  replied_after ds m n j a Garbled is = tt
  replied_after ds m n j a Closed is = tt

  -- it was asked whether the job of intent n may be handed over
  cleared_after : (ds : List Deed) (m n i j : ℕ) (a : ProcessView) (clear : Bool) → stage_after_all first ds ≡ Clearing m a i → due (Clearing m a i) ≡ Some (Clear n j) → IsAfter ds (Clearing m a i)
      → IsAfter (ds ++ Cleared n j clear ∷ []) (stage_cleared m a i clear)
  cleared_after ds m n i j a true at e h = (
    ds,
    (λ k. ds ++ Cleared (serial_in (sym e k)) (job_in (sym e k)) true ∷ []),
    record { earlier = h.0; is = h.1; claimed = h.2; stands = at },
  )
  cleared_after ds m n i j a false at e h = inr (record {
    earlier = h.0;
    job = i;
    is = (λ k. ds ++ Cleared (serial_in (sym e k)) (job_in (sym e k)) false ∷ [])
        ∙ ap (λ l. l ++ Cleared m i false ∷ []) h.1 ∙ append_assoc h.0 (Intended m i ∷ []) (Cleared m i false ∷ []);
    unbegun = refl;
  })

  one_after : (ds : List Deed) (hs : List ℕ) (t : Stage) (d : Deed) → stage_after_all first ds ≡ t → Shown g p hs t → due t ≡ Some (try_of d) → IsAfter ds t
      → IsAfter (ds ++ d ∷ []) (stage_after t d)
  one_after ds hs (Going n a way) (Loaded w v) at f e h = told_after (ds ++ Loaded w v ∷ []) n (process_after a v)
      (λ j some told. absurd (not_loaded hs a f j (claiming hs a f j v some told) w e)) w v way
  one_after ds hs (Going n a way) (Stored w v) at f e h = told_after (ds ++ Stored w v ∷ []) n (process_after a 0)
      (λ j some told. by_claim hs a f j (claiming hs a f j 0 some told) ds n way w v at e told) w v way
  one_after ds hs (Intending m a i) (Intended n j) at f e h = (ds, (λ k. ds ++ Intended (serial_in (sym e k)) (job_in (sym e k)) ∷ []), h)
  one_after ds hs (Intending m a i) (Fell t) at f e h = tt
  one_after ds hs (Intending m a i) d at f e h = absurd (differ _ _ e refl)
  one_after ds hs (Clearing m a i) (Cleared n j clear) at f e h = cleared_after ds m n i j a clear at e h
  one_after ds hs (Clearing m a i) (Fell t) at f e h = tt
  one_after ds hs (Clearing m a i) d at f e h = absurd (differ _ _ e refl)
  one_after ds hs (Performing m a i) (Performed n j reply) at f e h = replied_after ds m n j a reply (ap serial_in e)
  one_after ds hs (Performing m a i) (Fell t) at f e h = tt
  one_after ds hs (Performing m a i) d at f e h = absurd (differ _ _ e refl)
  one_after ds hs (Noting m a z way) (Noted n c) at f e h = tt
  one_after ds hs (Noting m a z way) (Fell t) at f e h = tt
  one_after ds hs (Noting m a z way) d at f e h = absurd (differ _ _ e refl)
  one_after ds hs (Asking intents) d at f e h = absurd h
  one_after ds hs (Settling m z way rest) d at f e h = absurd h
  one_after ds hs t (Loaded w v) at f e h = tt
  one_after ds hs t (Stored w v) at f e h = tt
  one_after ds hs t (Found j) at f e h = tt
  one_after ds hs t (Intended n j) at f e h = tt
  one_after ds hs t (Cleared n j clear) at f e h = tt
  one_after ds hs t (Performed n j reply) at f e h = tt
  one_after ds hs t (Noted n c) at f e h = tt
  one_after ds hs t (Asked n line reply) at f e h = tt
  one_after ds hs t (Fell x) at f e h = tt

  all_after : (ds more : List Deed) → AreDue (stage_after_all first ds) more → IsAfter ds (stage_after_all first ds) → IsAfter (ds ++ more) (stage_after_all first (ds ++ more))
  all_after ds [] h a = subst (λ l. IsAfter l (stage_after_all first l)) (sym (append-nil ds)) a
  all_after ds (d ∷ more) h a =
      let shown = all_shown g p [] first ds refl in
      let leads = stage_after_more first ds d in
      subst (λ l. IsAfter l (stage_after_all first l)) (append_assoc ds (d ∷ []) more)
      (all_after (ds ++ d ∷ []) more (subst (λ z. AreDue z more) (sym leads) h.1)
      (subst (IsAfter (ds ++ d ∷ [])) (sym leads) (one_after ds shown.0 (stage_after_all first ds) d refl shown.1 h.0 a)))

  pub just_intended : (before after : List Deed) (d : Deed) (n j : ℕ) → try_of d ≡ Clear n j → AreDue first (before ++ d ∷ after) → (earlier : List Deed) × (before ≡ earlier ++ Intended n j ∷ [])
  just_intended before after d n j is h =
      let parts = due_among first before after d h in
      let at = clearing_at (stage_after_all first before) n j (parts.1 ∙ ap (λ t. Some t) is) in
      let f = subst (IsAfter before) at.1 (all_after [] before parts.0 tt) in
      (f.0, f.1)

  pub just_cleared : (before after : List Deed) (d : Deed) (n j : ℕ) → try_of d ≡ Perform n j → AreDue first (before ++ d ∷ after) → HasJustCleared g p first before n j
  just_cleared before after d n j is h =
      let parts = due_among first before after d h in
      let at = performing_at (stage_after_all first before) n j (parts.1 ∙ ap (λ t. Some t) is) in
      let f = subst (IsAfter before) at.1 (all_after [] before parts.0 tt) in
      record { earlier = f.0; process = at.0; is = f.1; intended = f.2; stands = at.1 }

  pub just_clear : (before after : List Deed) (d : Deed) (n j : ℕ) → try_of d ≡ Perform n j → AreDue first (before ++ d ∷ after)
      → (earlier : List Deed) × (before ≡ earlier ++ Intended n j ∷ Cleared n j true ∷ [])
  just_clear before after d n j is h =
      let c = just_cleared before after d n j is h in
      (c.intended.earlier, c.is ∙ ap (λ l. l ++ Cleared n j true ∷ []) c.intended.is ∙ append_assoc c.intended.earlier (Intended n j ∷ []) (Cleared n j true ∷ []))

  answered_at : (ds : List Deed) (t : Stage) (n : ℕ) (c : JobResult) → due t ≡ Some (Note n c) → IsAfter ds t → HasJustAnswered ds n c ⊎ HasJustFoundTaken ds n c
  answered_at ds (Noting m a z way) n c e h = subst (λ o. HasJustAnswered ds (serial_in o) (answer_in o) ⊎ HasJustFoundTaken ds (serial_in o) (answer_in o)) e h
  answered_at ds (Going m a way) n c e h = absurd (no_other (access_of a.givens a.number a.standing) (Note n c) refl e)
  answered_at ds (Asking intents) n c e h = absurd h
  answered_at ds (Settling m z way rest) n c e h = absurd h
  answered_at ds t n c e h = cc

  pub just_answered : (before after : List Deed) (d : Deed) (n : ℕ) (c : JobResult) → try_of d ≡ Note n c → AreDue first (before ++ d ∷ after) → HasJustAnswered before n c ⊎ HasJustFoundTaken before n c
  just_answered before after d n c is h =
      let parts = due_among first before after d h in
      answered_at before (stage_after_all first before) n c (parts.1 ∙ ap (λ t. Some t) is) (all_after [] before parts.0 tt)
