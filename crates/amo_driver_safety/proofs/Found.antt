-- A job that is found claimed and not filed as the process begins isn't performed in its course.
use Rattle.std.proofs.Common.{◌≡◌, inl, ℕ, zero, suc, ◌+◌, ◌≤◌, arith, Bool, true, false, refl, sym, ap, ◌∙◌, subst, List, [], ◌∷◌, ◌++◌, Option, Some, None}
use Rattle.std.specs.Prelude.{if◌then◌else◌, ◌==◌}
use Rattle.std.proofs.lemmas.Bool.{true≢false, or_from}
use Rattle.amo_sets.specs.Sets.{has}
use Rattle.amo_sets.proofs.Numbers.{has-append}
use Rattle.amo_params.specs.Givens.{IsWorker}
use Rattle.amo_kk.specs.Step.{want, record_after}
use Rattle.amo_params.specs.declared.givens.Givens.{Givens}
use Rattle.amo_process.specs.Heard.{can_hear, told_by, doubted_by}
use Rattle.amo_process.specs.Stepped.{ProcessView, process_after, access_of, standing_after, may_leave, is_refused}
use Rattle.amo_process.specs.declared.access.Access.{Access}
use Rattle.amo_process.specs.declared.access.Access.TheVariants.{Load as LoadAccess, Store as StoreAccess, Nothing}
use Rattle.amo_process.specs.declared.standing.Standing.{Standing}
use Rattle.amo_process.specs.declared.standing.Standing.TheVariants.{Beginning, Going as GoingOn}
use Rattle.amo_driver.specs.declared.answer.Reply.{Reply}
use Rattle.amo_driver.specs.declared.answer.Reply.TheVariants.{Answered, Running, Garbled, Closed}
use Rattle.amo_driver.specs.declared.answer.Way.{Way}
use Rattle.amo_driver.specs.declared.answer.Way.TheVariants.{Go, Leave}
use Rattle.amo_driver.specs.declared.model.Deed.{Deed}
use Rattle.amo_driver.specs.declared.model.Deed.TheVariants.{Loaded, Stored, Cleared, Performed, Fell}
use Rattle.amo_driver.specs.declared.model.Try.{Try}
use Rattle.amo_driver.specs.declared.model.Try.TheVariants.{Find, Perform}
use Rattle.amo_driver.specs.Stage.{Stage, Going, Finding, Intending, Clearing, Performing, Noting, Leaving, Asking, Settling, Unanswered, Refused}
use Rattle.amo_driver.specs.Course.{try_of, access_tried, due, stage_by_jobs, stage_heard, stage_told, stage_replied, stage_after, AreDue}
use Rattle.amo_driver_safety.specs.Course.{handed_by_deeds}
use Rattle.amo_driver_safety.specs.Scene.{handed_by_try}
use Rattle.amo_driver_safety.proofs.Stages.{performing_only, standing_is, Shown, heard_with, shown_with}
use Rattle.amo_driver_safety.proofs.Spent.{is_spent}
use Rattle.amo_driver_safety.proofs.Claims.{doubted_claimed}
use Rattle.amo_driver_safety.proofs.Handed.{never}

abbrev is_find : Option Try → Bool
is_find None = false
is_find (Some (Find j)) = true
is_find (Some t) = false

abbrev found_in : Option Try → ℕ
found_in None = 0
found_in (Some (Find j)) = j
found_in (Some t) = 0

no_find : (x : Access) (j : ℕ) → access_tried x ≡ Some (Find j) → true ≡ false
no_find (LoadAccess w) j e = sym (ap is_find e)
no_find (StoreAccess w v) j e = sym (ap is_find e)
no_find Nothing j e = sym (ap is_find e)

-- a job is found only when that is awaited
finding_only : (s : Stage) (j : ℕ) → due s ≡ Some (Find j) → (n : ℕ) × (a : ProcessView) × (s ≡ Finding n a j)
finding_only (Finding n a i) j e = (n, a, ap (λ o. Finding n a (found_in o)) e)
finding_only (Going n a way) j e = absurd (true≢false (no_find (access_of a.givens a.number a.standing) j e))
finding_only (Asking []) j e = absurd (true≢false (sym (ap is_find e)))
finding_only (Asking (i ∷ rest)) j e = absurd (true≢false (sym (ap is_find e)))
finding_only s j e = absurd (true≢false (sym (ap is_find e)))

-- its own words are loaded
abbrev has_begun : Option Standing → Bool
has_begun None = true
has_begun (Some (Beginning word)) = false
has_begun (Some (GoingOn l fresh)) = true

-- No job is to be found any more. Of one that asks for intents nothing is said.
abbrev is_settled : Stage → Bool
is_settled (Going n a way) = has_begun a.standing
is_settled (Finding n a j) = false
is_settled (Intending n a j) = has_begun a.standing
is_settled (Clearing n a j) = has_begun a.standing
is_settled (Performing n a j) = has_begun a.standing
is_settled (Noting n a c way) = has_begun a.standing
is_settled (Asking intents) = false
is_settled (Settling n c way rest) = false
is_settled s = true

-- a process that has begun has done so after one more number, and has no job in doubt
begun_after : (g : Givens) (p v : ℕ) (own : List ℕ) (s : Option Standing) → has_begun s ≡ true
    → (has_begun (standing_after g p v own s) ≡ true) × (doubted_by (standing_after g p v own s) ≡ 0)
begun_after g p v own None h = (refl, refl)
begun_after g p v own (Some (Beginning word)) h = absurd (true≢false (sym h))
begun_after g p v own (Some (GoingOn l fresh)) h = by (can_hear g v (want l.state))
  where
    next : Bool → Option Standing
    next b = if b then Some (GoingOn (record l { state = record_after g p v l.state }) false) else None

    by : (b : Bool) → (has_begun (next b) ≡ true) × (doubted_by (next b) ≡ 0)
    by true = (refl, refl)
    by false = (refl, refl)

told_settled : (w v n : ℕ) (way : Way) (a : ProcessView) → has_begun a.standing ≡ true → doubted_by a.standing ≡ 0 → is_settled (stage_told w v n way a) ≡ true
told_settled w v n way a begun none = by (is_refused a.standing)
  where
    jobs : (t x : ℕ) → x ≡ 0 → is_settled (stage_by_jobs n a t x) ≡ true
    jobs zero zero e = begun
    jobs zero (suc j) e = absurd (omega arith)
    jobs (suc j) x e = begun

    leaving : (b : Bool) → is_settled (if b then Leaving a else Going n a Leave) ≡ true
    leaving true = refl
    leaving false = begun

    heard : (way : Way) → is_settled (stage_heard n way a) ≡ true
    heard Go = jobs (told_by a.standing) (doubted_by a.standing) none
    heard Leave = leaving (may_leave a.standing)

    by : (b : Bool) → is_settled (if b then Refused w v else stage_heard n way a) ≡ true
    by true = refl
    by false = heard way

replied_settled : (n : ℕ) (a : ProcessView) (reply : Reply) → has_begun a.standing ≡ true → is_settled (stage_replied n a reply) ≡ true
replied_settled n a (Answered m c way) begun = by (m == n)
  where
    by : (b : Bool) → is_settled (if b then Noting n a c way else Unanswered n (Answered m c way)) ≡ true
    by true = begun
    by false = refl
replied_settled n a (Running m way) begun = by (m == n)
  where
    by : (b : Bool) → is_settled (if b then Going (n + 1) a way else Unanswered n (Running m way)) ≡ true
    by true = begun
    by false = refl
replied_settled n a Garbled begun = refl
replied_settled n a Closed begun = refl

heard_settled : (w v x n : ℕ) (way : Way) (a : ProcessView) → has_begun a.standing ≡ true → is_settled (stage_told w v n way (process_after a x)) ≡ true
heard_settled w v x n way a h =
    let later = begun_after a.givens a.number x (process_after a x).own a.standing h in
    told_settled w v n way (process_after a x) later.0 later.1

settled_with : (s : Stage) (d : Deed) → is_settled s ≡ true → is_settled (stage_after s d) ≡ true
settled_with s (Fell t) h = refl
settled_with (Going n a way) (Loaded w v) h = heard_settled w v v n way a h
settled_with (Going n a way) (Stored w v) h = heard_settled w v 0 n way a h
settled_with (Finding n a j) d h = absurd (true≢false (sym h))
settled_with (Clearing n a j) (Cleared m i true) h = h
settled_with (Clearing n a j) (Cleared m i false) h = h
settled_with (Performing n a j) (Performed m i reply) h = replied_settled n a reply h
settled_with (Asking intents) d h = absurd (true≢false (sym h))
settled_with (Settling n c way rest) d h = absurd (true≢false (sym h))
settled_with s d h = h

none_found : (s : Stage) (before after : List Deed) (d : Deed) (j : ℕ) → is_settled s ≡ true → try_of d ≡ Find j → AreDue s (before ++ d ∷ after) → true ≡ false
none_found s [] after d j h is due_all = sym h ∙ ap is_settled (finding_only s j (due_all.0 ∙ ap (λ t. Some t) is)).2
none_found s (x ∷ xs) after d j h is due_all = none_found (stage_after s x) xs after d j (settled_with s x h) is due_all.1

-- who performs a job has begun
performing_settled : (g : Givens) (p : ℕ) (hs : List ℕ) (s : Stage) (n j : ℕ) → Shown g p hs s → due s ≡ Some (Perform n j) → is_settled s ≡ true
performing_settled g p hs s n j f e =
    let at = performing_only s n j e in
    let shown = subst (Shown g p hs) at.2 f in
    ap is_settled at.2 ∙ told_begun at.1.standing j shown.1 shown.2
  where
    told_begun : (s : Option Standing) (j : ℕ) → told_by s ≡ j → 1 ≤ j → has_begun s ≡ true
    told_begun (Some (Beginning word)) j e some = absurd (omega arith)
    told_begun None j e some = refl
    told_begun (Some (GoingOn l fresh)) j e some = refl

pub not_performed : (g : Givens) (p : ℕ) → IsWorker g p → (hs : List ℕ) (s : Stage) (before after : List Deed) (d : Deed) (j : ℕ) → Shown g p hs s → try_of d ≡ Find j
    → AreDue s (before ++ d ∷ after) → has (handed_by_deeds (before ++ d ∷ after)) j ≡ false
not_performed g p o hs s [] after d j f is h =
    let at = finding_only s j (h.0 ∙ ap (λ t. Some t) is) in
    let shown = subst (Shown g p hs) at.2 f in
    let doubted = sym (ap doubted_by (standing_is g p hs at.1 shown.0)) ∙ shown.1 in
    never g p o j shown.2 hs s (d ∷ after) f (doubted_claimed g p o hs j shown.2 doubted, inl (ap is_spent at.2)) h
not_performed g p o hs s (x ∷ xs) after d j f is h =
    has-append (handed_by_try (try_of x)) (handed_by_deeds (xs ++ d ∷ after)) j
    ∙ or_from _ _ (by (try_of x) refl) (not_performed g p o (heard_with hs s x) (stage_after s x) xs after d j (shown_with g p hs s x f) is h.1)
  where
    by : (t : Try) → try_of x ≡ t → has (handed_by_try t) j ≡ false
    by (Perform n i) e = absurd (true≢false (none_found (stage_after s x) xs after d j (settled_with s x (performing_settled g p hs s n i f (h.0 ∙ ap (λ t. Some t) e))) is h.1))
    by t e = refl
