-- In one course no job is handed to the partner twice, whatever its loads have given.
use Rattle.std.proofs.Common.{◌≡◌, ◌≢◌, ◌⊎◌, inl, inr, ⊎_elim, ℕ, ◌≤◌, true, false, ◌||◌, refl, sym, ap, ◌∙◌, subst, List, [], ◌∷◌, ◌++◌, Some}
use Rattle.std.proofs.lemmas.Bool.{true≢false, ne_eqb, cases_eq, or_from}
use Rattle.amo_sets.specs.Sets.{has, AreDistinct}
use Rattle.amo_sets.proofs.Numbers.{has-append}
use Rattle.amo_params.specs.Givens.{IsWorker}
use Rattle.amo_params.specs.declared.givens.Givens.{Givens}
use Rattle.amo_process.specs.Heard.{standing_of, told_by}
use Rattle.amo_driver.specs.declared.model.Deed.{Deed}
use Rattle.amo_driver.specs.declared.model.Deed.TheVariants.{Loaded, Stored, Found, Intended, Cleared, Performed, Noted, Asked, Fell}
use Rattle.amo_driver.specs.declared.model.Try.{Try}
use Rattle.amo_driver.specs.declared.model.Try.TheVariants.{Perform}
use Rattle.amo_driver.specs.Stage.{Stage, Going, Performing, Leaving}
use Rattle.amo_driver.specs.Course.{try_of, due, stage_after, AreDue}
use Rattle.amo_driver_safety.specs.Course.{handed_by_deeds}
use Rattle.amo_driver_safety.specs.Scene.{handed_by_try}
use Rattle.amo_driver_safety.proofs.Stages.{Shown, performing_only, heard_at, heard_with, shown_with}
use Rattle.amo_driver_safety.proofs.Spent.{is_spent, found_spent, intended_spent, cleared_spent, performed_spent, noted_spent, asked_for_spent, after_handing, here_told}
use Rattle.amo_driver_safety.proofs.Claims.{HasClaimed, claim_stays, told_claimed, told_no_more}

module _ (g : Givens) (p : ℕ) (o : IsWorker g p) where
  module _ (j : ℕ) (some : 1 ≤ j) where
    -- no performance of j is to come: it is claimed, and was handed over, or is not the one to
    -- perform
    abbrev IsPast : List ℕ → Stage → Type 0
    IsPast hs s = HasClaimed j (standing_of g p hs) × ((is_spent s ≡ true) ⊎ (told_by (standing_of g p hs) ≢ j))

    still : (hs : List ℕ) (s t : Stage) → (is_spent s ≡ true → is_spent t ≡ true) → IsPast hs s → IsPast hs t
    still hs s t stays h = (h.0, ⊎_elim (λ e. inl (stays e)) (λ n. inr n) h.1)

    heard_past : (hs : List ℕ) (s : Stage) (v : ℕ) → HasClaimed j (standing_of g p hs) → IsPast (hs ++ v ∷ []) s
    heard_past hs s v h = (claim_stays g p hs v j h, inr (told_no_more g p o hs j some v h))

    loaded_past : (hs : List ℕ) (s : Stage) (w v : ℕ) → IsPast hs s → IsPast (heard_at hs s v) (stage_after s (Loaded w v))
    loaded_past hs (Going n a way) w v h = heard_past hs (stage_after (Going n a way) (Loaded w v)) v h.0
    loaded_past hs s w v h = h

    stored_past : (hs : List ℕ) (s : Stage) (w v : ℕ) → IsPast hs s → IsPast (heard_at hs s 0) (stage_after s (Stored w v))
    stored_past hs (Going n a way) w v h = heard_past hs (stage_after (Going n a way) (Stored w v)) 0 h.0
    stored_past hs (Leaving a) w v h = (h.0, inl refl)
    stored_past hs s w v h = h

    past_with : (hs : List ℕ) (s : Stage) (d : Deed) → IsPast hs s → IsPast (heard_with hs s d) (stage_after s d)
    past_with hs s (Loaded w v) h = loaded_past hs s w v h
    past_with hs s (Stored w v) h = stored_past hs s w v h
    past_with hs s (Found i) h = still hs s (stage_after s (Found i)) (found_spent s i) h
    past_with hs s (Intended n i) h = still hs s (stage_after s (Intended n i)) (intended_spent s n i) h
    past_with hs s (Cleared n i clear) h = still hs s (stage_after s (Cleared n i clear)) (cleared_spent s n i clear) h
    past_with hs s (Performed n i reply) h = still hs s (stage_after s (Performed n i reply)) (performed_spent s n i reply) h
    past_with hs s (Noted n c) h = still hs s (stage_after s (Noted n c)) (noted_spent s n c) h
    past_with hs s (Asked n line reply) h = still hs s (stage_after s (Asked n line reply)) (asked_for_spent s n line reply) h
    past_with hs s (Fell t) h = (h.0, inl refl)

    not_now : (hs : List ℕ) (s : Stage) (t : Try) → Shown g p hs s → IsPast hs s → due s ≡ Some t → has (handed_by_try t) j ≡ false
    not_now hs s (Perform n i) f h e =
        let here = here_told g p hs s n i f e in
        ⊎_elim
        (λ (same : i ≡ j). absurd (⊎_elim (λ (spent : is_spent s ≡ true). true≢false (sym spent ∙ here.unspent)) (λ (other : told_by (standing_of g p hs) ≢ j). other (here.job ∙ same)) h.1))
        (λ other. ap (λ b. b || false) (ne_eqb i j other))
        (cases_eq i j)
    not_now hs s t f h e = refl

    pub never : (hs : List ℕ) (s : Stage) (ds : List Deed) → Shown g p hs s → IsPast hs s → AreDue s ds → has (handed_by_deeds ds) j ≡ false
    never hs s [] f h due_all = refl
    never hs s (d ∷ ds) f h due_all =
        has-append (handed_by_try (try_of d)) (handed_by_deeds ds) j
        ∙ or_from _ _ (not_now hs s (try_of d) f h due_all.0) (never (heard_with hs s d) (stage_after s d) ds (shown_with g p hs s d f) (past_with hs s d h) due_all.1)

  -- a performance lets the process hear nothing
  hears_nothing : (hs : List ℕ) (s : Stage) (d : Deed) (n j : ℕ) → due s ≡ Some (Perform n j) → heard_with hs s d ≡ hs
  hears_nothing hs s d n j e = ap (λ z. heard_with hs z d) (performing_only s n j e).2 ∙ by d
    where
      by : (d : Deed) → heard_with hs (Performing (performing_only s n j e).0 (performing_only s n j e).1 j) d ≡ hs
      by (Loaded w v) = refl
      by (Stored w v) = refl
      by d = refl

  pub each_once : (hs : List ℕ) (s : Stage) (ds : List Deed) → Shown g p hs s → AreDue s ds → AreDistinct (handed_by_deeds ds)
  each_once hs s [] f due_all = tt
  each_once hs s (d ∷ ds) f due_all = by (try_of d) refl (each_once (heard_with hs s d) (stage_after s d) ds (shown_with g p hs s d f) due_all.1)
    where
      by : (t : Try) → try_of d ≡ t → AreDistinct (handed_by_deeds ds) → AreDistinct (handed_by_try t ++ handed_by_deeds ds)
      by (Perform n j) is rest =
          let e = due_all.0 ∙ ap (λ t. Some t) is in
          let here = here_told g p hs s n j f e in
          let claimed = subst (λ l. HasClaimed j (standing_of g p l)) (sym (hears_nothing hs s d n j e)) (told_claimed g p o hs j here.low here.job) in
          (never j here.low (heard_with hs s d) (stage_after s d) ds (shown_with g p hs s d f) (claimed, inl (after_handing s d n j e is)) due_all.1, rest)
      by t is rest = rest
