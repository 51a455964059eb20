-- A process owes nothing while it asks for an intent's clearance, hands it over or notes its
-- outcome. So it owes one outcome at most.
use Rattle.std.proofs.Common.{◌≡◌, ⊎_elim, ℕ, ◌+◌, ◌≤◌, Bool, true, false, List, [], ◌∷◌, ◌++◌, length, Option, Some, None, refl, sym, ap, ◌∙◌, subst, arith}
use Rattle.std.proofs.lemmas.Bool.{true≢false, cases_Bool}
use Rattle.std.proofs.lemmas.Option.{none-some}
use Rattle.amo_process.specs.Stepped.{process_after, access_of}
use Rattle.amo_driver.specs.declared.answer.JobResult.{JobResult}
use Rattle.amo_driver.specs.declared.answer.Reply.{Reply}
use Rattle.amo_driver.specs.declared.model.Deed.{Deed}
use Rattle.amo_driver.specs.declared.model.Deed.TheVariants.{Loaded, Stored, Found, Intended, Cleared, Performed, Noted, Asked, Fell}
use Rattle.amo_driver.specs.declared.model.Try.{Try}
use Rattle.amo_driver.specs.declared.model.Try.TheVariants.{Intend, Note}
use Rattle.amo_driver.specs.Stage.{Stage, Going, Finding, Clearing, Performing, Noting, Leaving, Asking, Settling}
use Rattle.amo_driver.specs.Course.{try_of, due, stage_asked, stage_after}
use Rattle.amo_driver_safety.specs.Scene.{stage_at, scene_of}
use Rattle.amo_driver_safety.specs.Tries.{worker_of}
use Rattle.amo_driver_safety.specs.declared.model.Moment.{Moment}
use Rattle.amo_driver_safety.specs.declared.model.Moment.TheVariants.{Does, Loses, Begins}
use Rattle.amo_driver_safety.proofs.Stages.{no_other}
use Rattle.amo_run_log.specs.declared.entry.Entry.{Entry}
use Rattle.amo_run_log.specs.declared.entry.Entry.TheVariants.{Answer as AnswerTo}
use Rattle.amo_run_log.specs.Grammar.{intents}
use Rattle.amo_run_safety.specs.File.{File}
use Rattle.amo_run_safety.specs.Site.{Whereabouts, Away, Before, Inside, Round, Site, first_site, Event, Dies, Starts, RoundBegins, Joins, Acts, Misses, Pays, PaysUnheard, PaysUnread, Says, SaysUnheard, SaysUnread, Stops, is_inside, with_at}
use Rattle.amo_run_safety.specs.Run.{as_noted, still_owed, owed_after, has_fallen, left_in, whereabouts_after, whereabouts_missing, with_moment, with_moment_at, site_after, MayBeIn, MayAct, MayMiss, MayHappen, IsRunFrom, IsRun, site_after_all, site_of, openings_by}
use Rattle.amo_run_safety.proofs.Moments.{stands_after, stands_broken}
use Rattle.amo_run_safety.proofs.Stages.{is_asking, asked_then, by_value}
use Rattle.amo_run_safety.proofs.Counted.{IsCounted}
use Rattle.amo_run_safety.proofs.Sane.{at_number, at_both, IsGoodIf, FitsIn, Fits, IsSane, first_sane}
use Rattle.amo_run_safety.proofs.Acting.{seat_joined}
use Rattle.amo_run_safety.proofs.Events.{sane_after}
use Rattle.amo_run_safety.proofs.Once.{sane_of}
use Rattle.amo_run_safety.proofs.Standing.{StandsIn, StandsAt, stands_any, others_stand_in, others_stand_at}

-- whether an intent is asked for, handed over or noted there
abbrev is_at_it : Stage → Bool
is_at_it (Clearing n a j) = true
is_at_it (Performing n a j) = true
is_at_it (Noting n a c way) = true
is_at_it s = false

-- it owes one outcome at most, and none while it is at it
abbrev OwesBy : List Entry → Stage → Type 0
OwesBy owed s = (is_at_it s ≡ true → owed ≡ []) × (length owed ≤ 1)

owes_none : (s : Stage) → OwesBy [] s
owes_none s = ((λ t. refl), omega arith)

-- a process that isn't at it gets there by an intent alone

asks_not : (s : Stage) → is_asking s ≡ true → is_at_it s ≡ false
asks_not (Clearing n a j) h = absurd (true≢false (sym h))
asks_not (Performing n a j) h = absurd (true≢false (sym h))
asks_not (Noting n a c way) h = absurd (true≢false (sym h))
asks_not s h = refl

loaded_away : (s : Stage) (w v : ℕ) → is_at_it s ≡ false → is_at_it (stage_after s (Loaded w v)) ≡ false
loaded_away (Going n a way) w v h = by_value (λ z. is_at_it z ≡ false) n (process_after a v) (λ x. refl) (λ j. refl) (λ j. refl) refl w v refl way
loaded_away s w v h = h

stored_away : (s : Stage) (w v : ℕ) → is_at_it s ≡ false → is_at_it (stage_after s (Stored w v)) ≡ false
stored_away (Going n a way) w v h = by_value (λ z. is_at_it z ≡ false) n (process_after a 0) (λ x. refl) (λ j. refl) (λ j. refl) refl w v refl way
stored_away (Leaving a) w v h = refl
stored_away s w v h = h

found_away : (s : Stage) (j : ℕ) → is_at_it s ≡ false → is_at_it (stage_after s (Found j)) ≡ false
found_away (Finding n a i) j h = refl
found_away s j h = h

cleared_away : (s : Stage) (n j : ℕ) (clear : Bool) → is_at_it s ≡ false → is_at_it (stage_after s (Cleared n j clear)) ≡ false
cleared_away (Clearing m a i) n j clear h = absurd (true≢false h)
cleared_away s n j clear h = h

performed_away : (s : Stage) (n j : ℕ) (reply : Reply) → is_at_it s ≡ false → is_at_it (stage_after s (Performed n j reply)) ≡ false
performed_away (Performing m a i) n j reply h = absurd (true≢false h)
performed_away s n j reply h = h

asked_away : (s : Stage) (n line : ℕ) (reply : Reply) → is_at_it s ≡ false → is_at_it (stage_after s (Asked n line reply)) ≡ false
asked_away (Asking intents) n line reply h = asks_not (stage_asked intents reply) (asked_then intents reply)
asked_away s n line reply h = h

module _ (owed : List Entry) (k time : ℕ) where
  -- a deed that leaves what is owed
  still_owes : (s t : Stage) → (is_at_it s ≡ false → is_at_it t ≡ false) → OwesBy owed s → OwesBy owed t
  still_owes s t away h = (
    (λ at. ⊎_elim (λ (was : is_at_it s ≡ true). h.0 was) (λ (was : is_at_it s ≡ false). absurd (true≢false (sym at ∙ away was))) (cases_Bool (is_at_it s))),
    h.1,
  )

  one_more : (x : Entry) → owed ≡ [] → length (owed ++ x ∷ []) ≤ 1
  one_more x e = subst (λ l. length (l ++ x ∷ []) ≤ 1) (sym e) (omega arith)

  -- a note of a worker of a round
  noted_owes : (s : Stage) (n : ℕ) (c : JobResult) → due s ≡ Some (Note n c) → IsCounted k s → OwesBy owed s → (x : Entry) → OwesBy (owed ++ x ∷ []) (stage_after s (Noted n c))
  noted_owes (Noting m a z way) n c e counted h x = ((λ t. absurd (true≢false (sym t))), one_more x (h.0 refl))
  noted_owes (Going m a way) n c e counted h x = absurd (no_other (access_of a.givens a.number a.standing) (Note n c) refl e)
  noted_owes (Asking intents) n c e counted h x = absurd counted
  noted_owes (Settling m z way rest) n c e counted h x = absurd counted
  noted_owes s n c e counted h x = cc

  -- if something has failed, or its process never learns what came of it
  few_owed : (failed : Bool) (s : Stage) (t : Try) → due s ≡ Some t → IsCounted k s → OwesBy owed s → length (still_owed failed owed time t) ≤ 1
  few_owed failed s (Intend n j) e counted h = omega arith
  few_owed true s (Note n c) e counted h = h.1
  few_owed false s (Note n c) e counted h = (noted_owes s n c e counted h (AnswerTo n (as_noted time c))).1
  few_owed failed s t e counted h = h.1

  owes_then : (s : Stage) (d : Deed) → due s ≡ Some (try_of d) → IsCounted k s → OwesBy owed s → OwesBy (still_owed (has_fallen d) owed time (try_of d)) (stage_after s d)
  owes_then s (Loaded w v) e counted h = still_owes s (stage_after s (Loaded w v)) (loaded_away s w v) h
  owes_then s (Stored w v) e counted h = still_owes s (stage_after s (Stored w v)) (stored_away s w v) h
  owes_then s (Found j) e counted h = still_owes s (stage_after s (Found j)) (found_away s j) h
  owes_then s (Intended n j) e counted h = owes_none (stage_after s (Intended n j))
  owes_then s (Cleared n j clear) e counted h = still_owes s (stage_after s (Cleared n j clear)) (cleared_away s n j clear) h
  owes_then s (Performed n j reply) e counted h = still_owes s (stage_after s (Performed n j reply)) (performed_away s n j reply) h
  owes_then s (Noted n c) e counted h = noted_owes s n c e counted h (AnswerTo n (as_noted time c))
  owes_then s (Asked n line reply) e counted h = still_owes s (stage_after s (Asked n line reply)) (asked_away s n line reply) h
  owes_then s (Fell t) e counted h = ((λ at. absurd (true≢false (sym at))), few_owed true s t e counted h)

-- a process that is in no round owes nothing
record OwesRightly (rounds : ℕ → Option Round) (whereabouts : Whereabouts) (owed : List Entry) : Type 0 where
  pub outside : is_inside whereabouts ≡ false → owed ≡ []
  pub inside : StandsAt (OwesBy owed) rounds whereabouts

abbrev AllOweRightly : Site → Type 0
AllOweRightly w = (p : ℕ) → OwesRightly w.rounds (w.whereabouts p) (w.owed p)

none_in : (o : Option Round) (q : ℕ) → StandsIn (OwesBy []) o q
none_in None q = tt
none_in (Some r) q = owes_none (stage_at (scene_of r.givens r.moments) q)

none_at : (rounds : ℕ → Option Round) (whereabouts : Whereabouts) → StandsAt (OwesBy []) rounds whereabouts
none_at rounds Away = tt
none_at rounds (Before s) = tt
none_at rounds (Inside k q) = none_in (rounds k) q

nothing_owed : (rounds : ℕ → Option Round) (whereabouts : Whereabouts) → OwesRightly rounds whereabouts []
nothing_owed rounds whereabouts = record { outside = λ h. refl; inside = none_at rounds whereabouts }

module _ (rounds : ℕ → Option Round) (last : ℕ) (good : (k : ℕ) → IsGoodIf (rounds k)) (f : File Entry) (p : ℕ) (owed : List Entry) (time : ℕ) where
  acted_in : (o : Option Round) → IsGoodIf o → (q : ℕ) (d : Deed) → MayBeIn o (Does q d) → FitsIn o f p q → StandsIn (OwesBy owed) o q
      → StandsIn (OwesBy (still_owed (has_fallen d) owed time (try_of d))) (with_moment (Does q d) o) q
  acted_in None fine q d may fits h = absurd may
  acted_in (Some r) fine q d may fits h =
      subst (OwesBy (still_owed (has_fallen d) owed time (try_of d))) (sym (stands_after r.givens r.moments fine.history q d may.0))
      (owes_then owed (intents f.kept) time (stage_at (scene_of r.givens r.moments) q) d may.1 fits.1.2 h)

  acted_owes : (whereabouts : Whereabouts) (d : Deed) → MayAct rounds whereabouts d → Fits rounds last f p whereabouts → OwesRightly rounds whereabouts owed
      → OwesRightly (with_moment_at whereabouts (λ q. Does q d) rounds) (whereabouts_after whereabouts d) (owed_after whereabouts (has_fallen d) owed time (try_of d))
  acted_owes Away d may fits h = absurd may
  acted_owes (Before s) d may fits h = record { outside = λ no. h.outside refl; inside = tt }
  acted_owes (Inside k q) d may fits h = record {
    outside = λ no. absurd (true≢false no);
    inside = at_number (λ o. StandsIn (OwesBy (still_owed (has_fallen d) owed time (try_of d))) o q) rounds k (with_moment (Does q d) (rounds k)) k
        (λ e. acted_in (rounds k) (good k) q d may fits.1 h.inside)
        (λ n. absurd (n refl));
  }

  missed_in : (o : Option Round) → IsGoodIf o → (q : ℕ) (t : Try) → MayBeIn o (Loses q t) → FitsIn o f p q → StandsIn (OwesBy owed) o q
      → StandsIn (OwesBy (still_owed false owed time t)) (with_moment (Loses q t) o) q
  missed_in None fine q t may fits h = absurd may
  missed_in (Some r) fine q t may fits h =
      subst (OwesBy (still_owed false owed time t)) (sym (stands_broken r.givens r.moments fine.history q t may.0))
      ((λ at. absurd (true≢false (sym at))), few_owed owed (intents f.kept) time false (stage_at (scene_of r.givens r.moments) q) t may.1 fits.1.2 h)

  missed_owes : (whereabouts : Whereabouts) (t : Try) → MayMiss rounds whereabouts t → Fits rounds last f p whereabouts → OwesRightly rounds whereabouts owed
      → OwesRightly (with_moment_at whereabouts (λ q. Loses q t) rounds) (whereabouts_missing whereabouts) (owed_after whereabouts false owed time t)
  missed_owes Away t may fits h = absurd may
  missed_owes (Before s) t may fits h = record { outside = λ no. h.outside refl; inside = tt }
  missed_owes (Inside k q) t may fits h = record {
    outside = λ no. absurd (true≢false no);
    inside = at_number (λ o. StandsIn (OwesBy (still_owed false owed time t)) o q) rounds k (with_moment (Loses q t) (rounds k)) k
        (λ e. missed_in (rounds k) (good k) q t may fits.1 h.inside)
        (λ n. absurd (n refl));
  }

module _ (w : Site) (said : List (ℕ × ℕ)) (sane : IsSane w said) (rightly : AllOweRightly w) where
  -- a process ends or begins, and nothing is owed to its journal
  ends_owing : (q : ℕ) (there : Whereabouts) (p : ℕ) → OwesRightly w.rounds (with_at w.whereabouts q there p) (with_at w.owed q [] p)
  ends_owing q there p = at_both (λ whereabouts owed. OwesRightly w.rounds whereabouts owed) w.whereabouts w.owed q there [] p (λ e. nothing_owed w.rounds there) (λ n. rightly p)

  -- of another process than that of q, which acts
  other_owes : (q : ℕ) (moment : ℕ → Moment) → ((seat : ℕ) → worker_of (moment seat) ≡ seat) → (p : ℕ) → (p ≡ q → ⊥)
      → OwesRightly (with_moment_at (w.whereabouts q) moment w.rounds) (w.whereabouts p) (w.owed p)
  other_owes q moment is p n = record {
    outside = (rightly p).outside;
    inside = others_stand_at (OwesBy (w.owed p)) w.rounds w.last sane.rounds (w.whereabouts q) moment is (w.journals q) q (sane.whereabouts q) p n (w.journals p) (w.whereabouts p) (sane.whereabouts p) (rightly p).inside;
  }

  owe_after : (e : Event) → MayHappen w e → AllOweRightly (site_after w e)
  owe_after (Dies q) may p = ends_owing q Away p
  owe_after (Starts q es) may p = ends_owing q (Before (Asking (left_in es))) p
  owe_after (RoundBegins g r lines) may p = record {
    outside = (rightly p).outside;
    inside = stands_any (OwesBy (w.owed p)) w.rounds (with_at w.rounds (w.last + 1) (Some (record { givens = g; written = r; moments = [] }))) w.last sane.rounds
        (w.journals p) p (w.whereabouts p) (may.nobody p) (sane.whereabouts p);
  }
  owe_after (Joins q seat n) may p =
      let rounds = with_at w.rounds w.last (with_moment (Begins seat n) (w.rounds w.last)) in
      at_number (λ whereabouts. OwesRightly rounds whereabouts (w.owed p)) w.whereabouts q (Inside w.last seat) p
      (λ e.
      let none : w.owed q ≡ [] = (rightly q).outside (ap is_inside may.asked) in
      subst (OwesRightly rounds (Inside w.last seat)) (sym (ap w.owed e ∙ none)) (nothing_owed rounds (Inside w.last seat)))
      (λ m. record {
        outside = (rightly p).outside;
        inside = others_stand_in (OwesBy (w.owed p)) w.rounds w.last sane.rounds w.last (Begins seat n) q (seat_joined w q seat n may (subst IsGoodIf may.stands (sane.rounds w.last)))
            p m (w.journals p) (w.whereabouts p) (sane.whereabouts p) (rightly p).inside;
      })
  owe_after (Acts q time d) may p =
      let rounds = with_moment_at (w.whereabouts q) (λ seat. Does seat d) w.rounds in
      at_both (λ whereabouts owed. OwesRightly rounds whereabouts owed) w.whereabouts w.owed q (whereabouts_after (w.whereabouts q) d) (owed_after (w.whereabouts q) (has_fallen d) (w.owed q) time (try_of d)) p
      (λ e. acted_owes w.rounds w.last sane.rounds (w.journals q) q (w.owed q) time (w.whereabouts q) d may.1 (sane.whereabouts q) (rightly q))
      (λ n. other_owes q (λ seat. Does seat d) (λ seat. refl) p n)
  owe_after (Misses q time t) may p =
      let rounds = with_moment_at (w.whereabouts q) (λ seat. Loses seat t) w.rounds in
      at_both (λ whereabouts owed. OwesRightly rounds whereabouts owed) w.whereabouts w.owed q (whereabouts_missing (w.whereabouts q)) (owed_after (w.whereabouts q) false (w.owed q) time t) p
      (λ e. missed_owes w.rounds w.last sane.rounds (w.journals q) q (w.owed q) time (w.whereabouts q) t may.1 (sane.whereabouts q) (rightly q))
      (λ n. other_owes q (λ seat. Loses seat t) (λ seat. refl) p n)
  owe_after (Pays q) may p = at_number (λ owed. OwesRightly w.rounds (w.whereabouts p) owed) w.owed q [] p (λ e. nothing_owed w.rounds (w.whereabouts p)) (λ n. rightly p)
  owe_after (PaysUnheard q) may p = ends_owing q Away p
  owe_after (PaysUnread q) may p = ends_owing q Away p
  owe_after (Says f) may p = rightly p
  owe_after (SaysUnheard f) may p = rightly p
  owe_after (SaysUnread f) may p = rightly p
  owe_after (Stops left n) may p = nothing_owed w.rounds Away

owe_after_all : (w : Site) (said : List (ℕ × ℕ)) (es : List Event) → IsSane w said → AllOweRightly w → IsRunFrom w es → AllOweRightly (site_after_all w es)
owe_after_all w said [] sane rightly run = rightly
owe_after_all w said (e ∷ es) sane rightly run =
    owe_after_all (site_after w e) (said ++ openings_by w e) es (sane_after w said sane e run.0) (owe_after w said sane rightly e run.0) run.1

owed_in_runs : (es : List Event) → IsRun es → AllOweRightly (site_of es)
owed_in_runs es run = owe_after_all first_site [] es first_sane (λ p. nothing_owed first_site.rounds Away) run

pub only_inside : (es : List Event) (p : ℕ) → IsRun es → is_inside ((site_of es).whereabouts p) ≡ false → (site_of es).owed p ≡ []
only_inside es p run away = (owed_in_runs es run p).outside away

one_in : (o : Option Round) (owed : List Entry) (q : ℕ) → (o ≡ None → ⊥) → StandsIn (OwesBy owed) o q → length owed ≤ 1
one_in None owed q some h = absurd (some refl)
one_in (Some r) owed q some h = h.1

fits_some : (o : Option Round) (f : File Entry) (p q : ℕ) → FitsIn o f p q → o ≡ None → ⊥
fits_some None f p q fits e = fits
fits_some (Some r) f p q fits e = none-some r (sym e)

pub one_at_most : (es : List Event) (p : ℕ) → IsRun es → length ((site_of es).owed p) ≤ 1
one_at_most es p run = by ((site_of es).whereabouts p) (owed_in_runs es run p) ((sane_of es run).whereabouts p)
  where
    none : (site_of es).owed p ≡ [] → length ((site_of es).owed p) ≤ 1
    none e = subst (λ l. length l ≤ 1) (sym e) (omega arith)

    by : (there : Whereabouts) → OwesRightly (site_of es).rounds there ((site_of es).owed p) → Fits (site_of es).rounds (site_of es).last ((site_of es).journals p) p there → length ((site_of es).owed p) ≤ 1
    by Away h fits = none (h.outside refl)
    by (Before s) h fits = none (h.outside refl)
    by (Inside k q) h fits = one_in ((site_of es).rounds k) ((site_of es).owed p) q (fits_some ((site_of es).rounds k) ((site_of es).journals p) p q fits.1) h.inside
