-- No intent is handed over twice: its worker and its serial number are of one intent.
use Rattle.std.proofs.Common.{◌≡◌, ⊎_elim, ℕ, ◌+◌, ◌<◌, ◌≤◌, true, false, ◌&&◌, List, [], ◌∷◌, ◌++◌, Option, Some, None, refl, sym, ap, ◌∙◌, subst, arith, inl, inr}
use Rattle.std.specs.Prelude.{◌==◌}
use Rattle.std.proofs.lemmas.Bool.{true≢false, and_parts, or_from, false_from_ne_true, eqb-true}
use Rattle.amo_driver.specs.declared.model.Deed.{Deed}
use Rattle.amo_driver.specs.declared.model.Try.{Try}
use Rattle.amo_driver.specs.Stage.{Stage, Clearing, Performing, Asking}
use Rattle.amo_driver.specs.Course.{try_of, due, stage_after}
use Rattle.amo_driver_safety.specs.Scene.{stage_at, scene_of}
use Rattle.amo_driver_safety.specs.declared.model.Moment.TheVariants.{Does, Loses, Begins}
use Rattle.amo_driver_safety.proofs.Spent.{is_spent, after_handing}
use Rattle.amo_run_log.specs.declared.entry.Entry.{Entry}
use Rattle.amo_run_log.specs.Grammar.{intents}
use Rattle.amo_run_safety.specs.File.{File}
use Rattle.amo_run_safety.specs.Site.{Whereabouts, Away, Before, Inside, Round, Site, first_site, Event, Dies, Starts, RoundBegins, Joins, Acts, Misses, Pays, PaysUnheard, PaysUnread, Says, SaysUnheard, SaysUnread, Stops, with_at, lines_at}
use Rattle.amo_run_safety.specs.Run.{left_in, whereabouts_after, whereabouts_missing, with_moment, with_moment_at, site_after, MayJoin, MayBeIn, MayAct, MayMiss, MayHappen, IsRunFrom, IsRun, Handing, handings_by, handings_from, handings, openings_by, is_among, IsOneOf, names_of, AreDifferent}
use Rattle.amo_run_safety.proofs.Moments.{stands_after, stands_broken, stands_first}
use Rattle.amo_run_safety.proofs.Stages.{is_performing}
use Rattle.amo_run_safety.proofs.Counted.{intents_grow, IsBehind, behind_unless, behind_then}
use Rattle.amo_run_safety.proofs.Sane.{at_number, IsGood, IsGoodIf, FitsIn, Fits, IsSane, first_sane}
use Rattle.amo_run_safety.proofs.Standing.{StandsIn, StandsAt, stands_any, others_stand_in, others_stand_at}
use Rattle.amo_run_safety.proofs.Acting.{seat_worker, seat_joined}
use Rattle.amo_run_safety.proofs.Events.{sane_after}
use Rattle.amo_run_safety.proofs.Handed.{kept_grows, IsNow, handed_now, of_try, one_at_most, split_one}

-- the next intent that this worker of the round hands over has a greater number
abbrev pub BehindIn : Option Round → ℕ → ℕ → Type 0
BehindIn o q m = StandsIn (IsBehind m) o q

-- the same of a process that is here
abbrev pub BehindAt : (ℕ → Option Round) → Whereabouts → ℕ → Type 0
BehindAt rounds whereabouts m = StandsAt (IsBehind m) rounds whereabouts

-- It was handed over: what its worker is still to hand over has another number.
pub record WasNamed (w : Site) (h : Handing) : Type 0 where
  pub few : h.serial ≤ intents (w.journals h.worker).kept
  pub behind : BehindAt w.rounds (w.whereabouts h.worker) h.serial

module _ (rounds : ℕ → Option Round) (last : ℕ) (good : (k : ℕ) → IsGoodIf (rounds k)) where
  -- its own whereabouts

  acted_in : (o : Option Round) → IsGoodIf o → (f : File Entry) (p q : ℕ) (d : Deed) → MayBeIn o (Does q d) → FitsIn o f p q → (m : ℕ) → m ≤ intents f.kept → BehindIn o q m
      → BehindIn (with_moment (Does q d) o) q m
  acted_in None fine f p q d may fits m few h = absurd may
  acted_in (Some r) fine f p q d may fits m few h =
      subst (IsBehind m) (sym (stands_after r.givens r.moments fine.history q d may.0))
      (behind_then m (intents f.kept) few (stage_at (scene_of r.givens r.moments) q) d may.1 fits.1.2 h)

  acted_behind : (whereabouts : Whereabouts) (f : File Entry) (p : ℕ) (d : Deed) → MayAct rounds whereabouts d → Fits rounds last f p whereabouts → (m : ℕ) → m ≤ intents f.kept
      → BehindAt rounds whereabouts m → BehindAt (with_moment_at whereabouts (λ q. Does q d) rounds) (whereabouts_after whereabouts d) m
  acted_behind Away f p d may fits m few h = absurd may
  acted_behind (Before s) f p d may fits m few h = tt
  acted_behind (Inside k q) f p d may fits m few h = at_number (λ o. BehindIn o q m) rounds k (with_moment (Does q d) (rounds k)) k
      (λ e. acted_in (rounds k) (good k) f p q d may fits.1 m few h)
      (λ n. absurd (n refl))

  missed_in : (o : Option Round) → IsGoodIf o → (q : ℕ) (t : Try) → MayBeIn o (Loses q t) → (m : ℕ) → BehindIn (with_moment (Loses q t) o) q m
  missed_in None fine q t may m = absurd may
  missed_in (Some r) fine q t may m = subst (IsBehind m) (sym (stands_broken r.givens r.moments fine.history q t may.0)) tt

  missed_behind : (whereabouts : Whereabouts) (t : Try) → MayMiss rounds whereabouts t → (m : ℕ) → BehindAt (with_moment_at whereabouts (λ q. Loses q t) rounds) (whereabouts_missing whereabouts) m
  missed_behind Away t may m = absurd may
  missed_behind (Before s) t may m = tt
  missed_behind (Inside k q) t may m = at_number (λ o. BehindIn o q m) rounds k (with_moment (Loses q t) (rounds k)) k
      (λ e. missed_in (rounds k) (good k) q t may m)
      (λ n. absurd (n refl))

not_spent : (s : Stage) → is_spent s ≡ true → is_performing s ≡ false
not_spent (Clearing n a j) h = absurd (true≢false (sym h))
not_spent (Performing n a j) h = absurd (true≢false (sym h))
not_spent s h = refl

-- who has just handed something over, or found it taken: a deed after which the next access comes
-- before any performance
abbrev pub IsLast : Deed → Type 0
IsLast d = (s : Stage) → due s ≡ Some (try_of d) → is_spent (stage_after s d) ≡ true

free_in : (o : Option Round) → IsGoodIf o → (q : ℕ) (d : Deed) → MayBeIn o (Does q d) → IsLast d → (m : ℕ) → BehindIn (with_moment (Does q d) o) q m
free_in None fine q d may last m = absurd may
free_in (Some r) fine q d may last m =
    let s = stage_at (scene_of r.givens r.moments) q in
    subst (IsBehind m) (sym (stands_after r.givens r.moments fine.history q d may.0))
    (behind_unless m (stage_after s d) (not_spent (stage_after s d) (last s may.1)))

acted_free : (rounds : ℕ → Option Round) → ((k : ℕ) → IsGoodIf (rounds k)) → (whereabouts : Whereabouts) (d : Deed) → MayAct rounds whereabouts d → IsLast d → (m : ℕ)
    → BehindAt (with_moment_at whereabouts (λ q. Does q d) rounds) (whereabouts_after whereabouts d) m
acted_free rounds good Away d may last m = absurd may
acted_free rounds good (Before s) d may last m = tt
acted_free rounds good (Inside k q) d may last m = at_number (λ o. BehindIn o q m) rounds k (with_moment (Does q d) (rounds k)) k
    (λ e. free_in (rounds k) (good k) q d may last m)
    (λ n. absurd (n refl))

module _ (w : Site) (said : List (ℕ × ℕ)) (sane : IsSane w said) where
  joined : (p q n : ℕ) → MayJoin w p q n → (m : ℕ) → BehindAt (with_at w.rounds w.last (with_moment (Begins q n) (w.rounds w.last))) (Inside w.last q) m
  joined p q n may m =
      let good : IsGood may.round = subst IsGoodIf may.stands (sane.rounds w.last) in
      at_number (λ o. BehindIn o q m) w.rounds w.last (with_moment (Begins q n) (w.rounds w.last)) w.last
      (λ e. subst (λ o. BehindIn (with_moment (Begins q n) o) q m) (sym may.stands)
      (subst (IsBehind m) (sym (stands_first may.round.givens may.round.moments good.history q n (seat_worker w p q n may good))) tt))
      (λ n. absurd (n refl))

  module _ (h : Handing) (was : WasNamed w h) where
    gone : (p : ℕ) → BehindAt w.rounds (with_at w.whereabouts p Away h.worker) h.serial
    gone p = at_number (λ whereabouts. BehindAt w.rounds whereabouts h.serial) w.whereabouts p Away h.worker (λ e. tt) (λ n. was.behind)

    behind_after : (e : Event) → MayHappen w e → BehindAt (site_after w e).rounds ((site_after w e).whereabouts h.worker) h.serial
    behind_after (Dies p) may = gone p
    behind_after (Starts p es) may = at_number (λ whereabouts. BehindAt w.rounds whereabouts h.serial) w.whereabouts p (Before (Asking (left_in es))) h.worker (λ e. tt) (λ n. was.behind)
    behind_after (RoundBegins g r lines) may = stands_any (IsBehind h.serial) w.rounds (with_at w.rounds (w.last + 1) (Some (record { givens = g; written = r; moments = [] }))) w.last sane.rounds
        (w.journals h.worker) h.worker (w.whereabouts h.worker) (may.nobody h.worker) (sane.whereabouts h.worker)
    behind_after (Joins p q n) may = at_number (λ whereabouts. BehindAt (with_at w.rounds w.last (with_moment (Begins q n) (w.rounds w.last))) whereabouts h.serial) w.whereabouts p (Inside w.last q) h.worker
        (λ e. joined p q n may h.serial)
        (λ m. others_stand_in (IsBehind h.serial) w.rounds w.last sane.rounds w.last (Begins q n) p (seat_joined w p q n may (subst IsGoodIf may.stands (sane.rounds w.last)))
        h.worker m (w.journals h.worker) (w.whereabouts h.worker) (sane.whereabouts h.worker) was.behind)
    behind_after (Acts p time d) may = at_number (λ whereabouts. BehindAt (with_moment_at (w.whereabouts p) (λ q. Does q d) w.rounds) whereabouts h.serial) w.whereabouts p (whereabouts_after (w.whereabouts p) d) h.worker
        (λ e. acted_behind w.rounds w.last sane.rounds (w.whereabouts p) (w.journals p) p d may.1 (sane.whereabouts p) h.serial
        (subst (λ x. h.serial ≤ intents (w.journals x).kept) e was.few) (subst (λ x. BehindAt w.rounds (w.whereabouts x) h.serial) e was.behind))
        (λ m. others_stand_at (IsBehind h.serial) w.rounds w.last sane.rounds (w.whereabouts p) (λ q. Does q d) (λ q. refl) (w.journals p) p (sane.whereabouts p)
        h.worker m (w.journals h.worker) (w.whereabouts h.worker) (sane.whereabouts h.worker) was.behind)
    behind_after (Misses p time t) may = at_number (λ whereabouts. BehindAt (with_moment_at (w.whereabouts p) (λ q. Loses q t) w.rounds) whereabouts h.serial) w.whereabouts p (whereabouts_missing (w.whereabouts p)) h.worker
        (λ e. missed_behind w.rounds w.last sane.rounds (w.whereabouts p) t may.1 h.serial)
        (λ m. others_stand_at (IsBehind h.serial) w.rounds w.last sane.rounds (w.whereabouts p) (λ q. Loses q t) (λ q. refl) (w.journals p) p (sane.whereabouts p)
        h.worker m (w.journals h.worker) (w.whereabouts h.worker) (sane.whereabouts h.worker) was.behind)
    behind_after (Pays p) may = was.behind
    behind_after (PaysUnheard p) may = gone p
    behind_after (PaysUnread p) may = gone p
    behind_after (Says f) may = was.behind
    behind_after (SaysUnheard f) may = was.behind
    behind_after (SaysUnread f) may = was.behind
    behind_after (Stops left n) may = tt

    pub named_after : (e : Event) → MayHappen w e → WasNamed (site_after w e) h
    named_after e may =
        let more = intents_grow (w.journals h.worker).kept ((site_after w e).journals h.worker).kept (kept_grows w e h.worker) in
        let few = was.few in
        record { few = omega (arith, few, more); behind = behind_after e may }

  -- what is handed over now

  pub acted_now : (p time : ℕ) (d : Deed) → MayAct w.rounds (w.whereabouts p) d → IsLast d → (m : ℕ)
      → BehindAt (site_after w (Acts p time d)).rounds ((site_after w (Acts p time d)).whereabouts p) m
  acted_now p time d may last m = at_number (λ whereabouts. BehindAt (with_moment_at (w.whereabouts p) (λ q. Does q d) w.rounds) whereabouts m) w.whereabouts p (whereabouts_after (w.whereabouts p) d) p
      (λ e. acted_free w.rounds sane.rounds (w.whereabouts p) d may last m) (λ n. absurd (n refl))

  missed_now : (p time : ℕ) (t : Try) → MayMiss w.rounds (w.whereabouts p) t → (m : ℕ) → BehindAt (site_after w (Misses p time t)).rounds ((site_after w (Misses p time t)).whereabouts p) m
  missed_now p time t may m = at_number (λ whereabouts. BehindAt (with_moment_at (w.whereabouts p) (λ q. Loses q t) w.rounds) whereabouts m) w.whereabouts p (whereabouts_missing (w.whereabouts p)) p
      (λ e. missed_behind w.rounds w.last sane.rounds (w.whereabouts p) t may m) (λ n. absurd (n refl))

  now_behind : (e : Event) → MayHappen w e → (k : Handing) → IsOneOf (handings_by w e) k → BehindAt (site_after w e).rounds ((site_after w e).whereabouts k.worker) k.serial
  now_behind (Dies p) may k one = absurd one
  now_behind (Starts p es) may k one = absurd one
  now_behind (RoundBegins g r lines) may k one = absurd one
  now_behind (Joins p q n) may k one = absurd one
  now_behind (Acts p time d) may k one =
      let of = of_try p (lines_at w.rounds (w.whereabouts p)) (try_of d) k one in
      subst (λ (x : Handing). BehindAt (site_after w (Acts p time d)).rounds ((site_after w (Acts p time d)).whereabouts x.worker) x.serial) of.is
      (acted_now p time d may.1 (λ s e. after_handing s d of.serial of.job (e ∙ ap (λ t. Some t) of.try_is) of.try_is) of.serial)
  now_behind (Misses p time t) may k one =
      let of = of_try p (lines_at w.rounds (w.whereabouts p)) t k one in
      subst (λ (x : Handing). BehindAt (site_after w (Misses p time t)).rounds ((site_after w (Misses p time t)).whereabouts x.worker) x.serial) of.is
      (missed_now p time t may.1 of.serial)
  now_behind (Pays p) may k one = absurd one
  now_behind (PaysUnheard p) may k one = absurd one
  now_behind (PaysUnread p) may k one = absurd one
  now_behind (Says f) may k one = absurd one
  now_behind (SaysUnheard f) may k one = absurd one
  now_behind (SaysUnread f) may k one = absurd one
  now_behind (Stops left n) may k one = absurd one

  pub now_named : (e : Event) → MayHappen w e → (k : Handing) → IsOneOf (handings_by w e) k → WasNamed (site_after w e) k
  now_named e may k one =
      let more = intents_grow (w.journals k.worker).kept ((site_after w e).journals k.worker).kept (kept_grows w e k.worker) in
      let counted = (handed_now w said sane e may k one).here.counted in
      record { few = omega (arith, counted, more); behind = now_behind e may k one }

pub differs : (w : Site) (e : Event) (h k : Handing) → WasNamed w h → IsNow w e k → h.worker ≡ k.worker → h.serial ≡ k.serial → ⊥
differs w e h k was now one same =
    let here = now.here in
    let at_k = subst (λ x. BehindAt w.rounds (w.whereabouts x) h.serial) one was.behind in
    let inside = subst (λ whereabouts. BehindAt w.rounds whereabouts h.serial) here.inside at_k in
    let there : IsBehind h.serial (stage_at (scene_of here.round.givens here.round.moments) here.seat) = subst (λ o. BehindIn o here.seat h.serial) here.stands inside in
    let less : h.serial < k.serial = subst (IsBehind h.serial) here.stage there in
    omega (arith, less, same)

never_named : (w : Site) (said : List (ℕ × ℕ)) (es : List Event) → IsSane w said → IsRunFrom w es → (h : Handing) → WasNamed w h → (k : Handing) → IsOneOf (handings_from w es) k
    → h.worker ≡ k.worker → h.serial ≡ k.serial → ⊥
never_named w said [] sane run h was k one = absurd one
never_named w said (e ∷ es) sane run h was k one = ⊎_elim
    (λ (now : IsOneOf (handings_by w e) k). differs w e h k was (handed_now w said sane e run.0 k now))
    (λ (later : IsOneOf (handings_from (site_after w e) es) k).
    never_named (site_after w e) (said ++ openings_by w e) es (sane_after w said sane e run.0) run.1 h (named_after w said sane h was e run.0) k later)
    (split_one (handings_by w e) (handings_from (site_after w e) es) k one)

pub unnamed : (hs : List Handing) (p n : ℕ) → ((k : Handing) → IsOneOf hs k → p ≡ k.worker → n ≡ k.serial → ⊥) → is_among (names_of hs) p n ≡ false
unnamed [] p n none = refl
unnamed (k ∷ hs) p n none =
    or_from ((k.worker == p) && (k.serial == n)) (is_among (names_of hs) p n)
    (false_from_ne_true ((k.worker == p) && (k.serial == n)) (λ t.
    let parts = and_parts (k.worker == p) (k.serial == n) t in
    none k (inl refl) (sym (eqb-true k.worker p parts.0)) (sym (eqb-true k.serial n parts.1))))
    (unnamed hs p n (λ x one. none x (inr one)))

all_different : (w : Site) (said : List (ℕ × ℕ)) (es : List Event) → IsSane w said → IsRunFrom w es → AreDifferent (names_of (handings_from w es))
all_different w said [] sane run = tt
all_different w said (e ∷ es) sane run =
    let after = sane_after w said sane e run.0 in
    let rest = all_different (site_after w e) (said ++ openings_by w e) es after run.1 in
    ⊎_elim
    (λ (none : handings_by w e ≡ []). subst (λ l. AreDifferent (names_of (l ++ handings_from (site_after w e) es))) (sym none) rest)
    (λ (one : (h : Handing) × (handings_by w e ≡ h ∷ [])).
    subst (λ l. AreDifferent (names_of (l ++ handings_from (site_after w e) es))) (sym one.1) (
      unnamed (handings_from (site_after w e) es) one.0.worker one.0.serial (never_named (site_after w e) (said ++ openings_by w e) es after run.1 one.0
          (now_named w said sane e run.0 one.0 (subst (λ l. IsOneOf l one.0) (sym one.1) (inl refl)))),
      rest,
    ))
    (one_at_most w e)

pub handed_once : (es : List Event) → IsRun es → AreDifferent (names_of (handings es))
handed_once es run = all_different first_site [] es first_sane run
