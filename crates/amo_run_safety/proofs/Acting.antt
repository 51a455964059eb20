-- A deed of a process, or an event unknown to it, keeps the rounds good. Each process stays at a
-- place that it may have.
use Rattle.std.proofs.Common.{◌≡◌, ℕ, false, ◌+◌, ◌≤◌, List, [], ◌∷◌, ◌++◌, Option, Some, None, refl, sym, subst, arith}
use Rattle.std.specs.List.{AllByRecursion}
use Rattle.std.proofs.lemmas.Bool.{true≢false}
use Rattle.amo_params.specs.Givens.{IsWorker}
use Rattle.amo_driver.specs.declared.model.Deed.{Deed}
use Rattle.amo_driver.specs.declared.model.Try.{Try}
use Rattle.amo_driver.specs.Stage.{Stage, Broken}
use Rattle.amo_driver.specs.Course.{try_of, due, stage_after}
use Rattle.amo_driver_safety.specs.Scene.{stage_at, scene_of, MayBe}
use Rattle.amo_driver_safety.specs.declared.model.Moment.{Moment}
use Rattle.amo_driver_safety.specs.declared.model.Moment.TheVariants.{Does, Loses, Begins}
use Rattle.amo_run_log.specs.declared.entry.Entry.{Entry}
use Rattle.amo_run_log.specs.Grammar.{intents}
use Rattle.amo_run_log.specs.Open.{IsAnswer}
use Rattle.amo_run_files.proofs.SeatLaws.{in_range}
use Rattle.amo_run_safety.specs.File.{File, behind, with_put, after_put}
use Rattle.amo_run_safety.specs.Site.{Whereabouts, Away, Before, Inside, Round, Site, with_at, lines_of, lines_at}
use Rattle.amo_run_safety.specs.Run.{entries_of_try, with_owed, appended, has_fallen, whereabouts_after, whereabouts_missing, with_moment, with_moment_at, MayJoin, MayBeIn, MayAct, MayMiss}
use Rattle.amo_run_safety.proofs.Files.{after_grows, after_tight, after_kept}
use Rattle.amo_run_safety.proofs.Moments.{longer, stands_after, stands_broken, stands_first}
use Rattle.amo_run_safety.proofs.Records.{sound_parts}
use Rattle.amo_run_safety.proofs.Stages.{not_broken, asks_on, entries_of_deed, IsPut, put_stays, put_then}
use Rattle.amo_run_safety.proofs.Counted.{intents-append, no_intents, IsCounted, counted_then, counted_grown}
use Rattle.amo_run_safety.proofs.Sane.{at_number, IsGood, IsGoodIf, IsReady, FitsIn, HasSeat, seat_in, Fits, fits_still}

-- a round with one moment more is as good
good_more : (r : Round) (m : Moment) → IsGood r → MayBe r.givens (scene_of r.givens r.moments) m → IsGood (record r { moments = r.moments ++ m ∷ [] })
good_more r m good may = record { history = longer r.givens r.moments good.history m may; sound = good.sound; jobs = good.jobs; workers = good.workers }

good_in : (o : Option Round) (m : Moment) → IsGoodIf o → MayBeIn o m → IsGoodIf (with_moment m o)
good_in None m good may = absurd may
good_in (Some r) m good may = good_more r m good may

-- if one is as good, all are
pub good_with : (rounds : ℕ → Option Round) → ((i : ℕ) → IsGoodIf (rounds i)) → (k : ℕ) (m : Moment) → MayBeIn (rounds k) m → (i : ℕ) → IsGoodIf (with_at rounds k (with_moment m (rounds k)) i)
good_with rounds good k m may i = at_number IsGoodIf rounds k (with_moment m (rounds k)) i (λ e. good_in (rounds k) m (good k) may) (λ n. good i)

-- what is paid is no intent: it leaves each number, and what stands in the journal

paid_counted : (kept loose owed : List Entry) → AllByRecursion IsAnswer owed → intents (behind kept loose owed).kept ≡ intents kept
paid_counted kept [] owed answers =
    let both = intents-append kept owed in
    let none = no_intents owed answers in
    omega (arith, both, none)
paid_counted kept (x ∷ loose) owed answers = refl

paid_ready : (lines : List ℕ) (f : File Entry) (s : Stage) (owed : List Entry) → AllByRecursion IsAnswer owed → IsReady lines f s → IsReady lines (with_put f owed) s
paid_ready lines f s owed answers ready = (
  (λ b. after_tight false f owed (ready.0 b)),
  put_stays lines f.kept (with_put f owed).kept (after_grows false f owed) s ready.1,
  subst (λ k. IsCounted k s) (sym (paid_counted f.kept f.loose owed answers)) ready.2,
)

paid_in : (o : Option Round) (f : File Entry) (p q : ℕ) (owed : List Entry) → AllByRecursion IsAnswer owed → FitsIn o f p q → FitsIn o (with_put f owed) p q
paid_in None f p q owed answers h = h
paid_in (Some r) f p q owed answers h = (h.0, paid_ready r.written.lines f (stage_at (scene_of r.givens r.moments) q) owed answers h.1)

pub paid_fits : (rounds : ℕ → Option Round) (last : ℕ) (f : File Entry) (p : ℕ) (whereabouts : Whereabouts) (owed : List Entry) → AllByRecursion IsAnswer owed
    → Fits rounds last f p whereabouts → Fits rounds last (with_put f owed) p whereabouts
paid_fits rounds last f p Away owed answers h = h
paid_fits rounds last f p (Before s) owed answers h = (h.0, (λ b. after_tight false f owed (h.1 b)))
paid_fits rounds last f p (Inside k q) owed answers h = (h.0, paid_in (rounds k) f p q owed answers h.1)

module _ (rounds : ℕ → Option Round) (last : ℕ) (good : (k : ℕ) → IsGoodIf (rounds k)) (p : ℕ) where
  -- a deed of a process that owes this

  module _ (owed : List Entry) (answers : AllByRecursion IsAnswer owed) (time : ℕ) (d : Deed) where
    pub acted_good : (whereabouts : Whereabouts) → MayAct rounds whereabouts d → (i : ℕ) → IsGoodIf (with_moment_at whereabouts (λ q. Does q d) rounds i)
    acted_good Away may i = absurd may
    acted_good (Before s) may i = good i
    acted_good (Inside k q) may i = good_with rounds good k (Does q d) may i

    abbrev after_deed : List ℕ → File Entry → File Entry
    after_deed lines f = after_put (has_fallen d) f (with_owed owed lines time (try_of d))

    ready_then : (lines : List ℕ) (f : File Entry) (s : Stage) → due s ≡ Some (try_of d) → IsReady lines f s → IsReady lines (after_deed lines f) (stage_after s d)
    ready_then lines f s e ready =
        let tight = ready.0 (not_broken s (try_of d) e) in
        let es = with_owed owed lines time (try_of d) in
        let kept = after_kept (has_fallen d) f es tight in (
          (λ b. after_tight (has_fallen d) f es tight),
          subst (λ x. IsPut lines x (stage_after s d)) (sym kept) (put_then owed lines time f.kept s d e ready.1),
          subst (λ x. IsCounted (intents x) (stage_after s d)) (sym kept)
              (counted_grown (intents f.kept) (entries_of_deed owed lines time d) (stage_after s d) (counted_then (intents f.kept) owed answers lines time s d e ready.2) f.kept refl),
        )

    acted_in : (o : Option Round) → IsGoodIf o → (f : File Entry) (q : ℕ) → MayBeIn o (Does q d) → FitsIn o f p q
        → FitsIn (with_moment (Does q d) o) (after_deed (lines_of o) f) p q
    acted_in None fine f q may h = absurd may
    acted_in (Some r) fine f q may h = (
      h.0,
      subst (λ s. IsReady r.written.lines (after_deed r.written.lines f) s) (sym (stands_after r.givens r.moments fine.history q d may.0))
          (ready_then r.written.lines f (stage_at (scene_of r.givens r.moments) q) may.1 h.1),
    )

    pub acted_fits : (f : File Entry) (whereabouts : Whereabouts) → MayAct rounds whereabouts d → Fits rounds last f p whereabouts
        → Fits (with_moment_at whereabouts (λ q. Does q d) rounds) last (after_put (has_fallen d) f (appended whereabouts owed (lines_at rounds whereabouts) time (try_of d))) p (whereabouts_after whereabouts d)
    acted_fits f Away may h = absurd may
    acted_fits f (Before s) may h = (asks_on s d h.0, (λ b. after_tight (has_fallen d) f (entries_of_try [] time (try_of d)) (h.1 (not_broken s (try_of d) may))))
    acted_fits f (Inside k q) may h = (
      h.0,
      at_number (λ o. FitsIn o (after_deed (lines_of (rounds k)) f) p q) rounds k (with_moment (Does q d) (rounds k)) k
          (λ e. acted_in (rounds k) (good k) f q may h.1)
          (λ n. absurd (n refl)),
    )

    pub acted_others : (f : File Entry) (whereabouts : Whereabouts) → MayAct rounds whereabouts d → Fits rounds last f p whereabouts
        → (other : ℕ) → (other ≡ p → ⊥) → (g : File Entry) (there : Whereabouts) → Fits rounds last g other there → Fits (with_moment_at whereabouts (λ q. Does q d) rounds) last g other there
    acted_others f Away may own other n g there h = absurd may
    acted_others f (Before s) may own other n g there h = h
    acted_others f (Inside k q) may own other n g there h = fits_still rounds last good k (Does q d) p (seat_in (rounds k) f p q own.1) other n g there h

  -- what is missed

  module _ (t : Try) where
    pub missed_good : (whereabouts : Whereabouts) → MayMiss rounds whereabouts t → (i : ℕ) → IsGoodIf (with_moment_at whereabouts (λ q. Loses q t) rounds i)
    missed_good Away may i = absurd may
    missed_good (Before s) may i = good i
    missed_good (Inside k q) may i = good_with rounds good k (Loses q t) may i

    broken_ready : (lines : List ℕ) (f : File Entry) → IsReady lines f Broken
    broken_ready lines f = ((λ b. absurd (true≢false b)), tt, tt)

    missed_in : (o : Option Round) → IsGoodIf o → (f g : File Entry) (q : ℕ) → MayBeIn o (Loses q t) → FitsIn o f p q → FitsIn (with_moment (Loses q t) o) g p q
    missed_in None fine f g q may h = absurd may
    missed_in (Some r) fine f g q may h = (
      h.0,
      subst (λ s. IsReady r.written.lines g s) (sym (stands_broken r.givens r.moments fine.history q t may.0)) (broken_ready r.written.lines g),
    )

    pub missed_fits : (f g : File Entry) (whereabouts : Whereabouts) → MayMiss rounds whereabouts t → Fits rounds last f p whereabouts
        → Fits (with_moment_at whereabouts (λ q. Loses q t) rounds) last g p (whereabouts_missing whereabouts)
    missed_fits f g Away may h = absurd may
    missed_fits f g (Before s) may h = (refl, (λ b. absurd (true≢false b)))
    missed_fits f g (Inside k q) may h = (
      h.0,
      at_number (λ o. FitsIn o g p q) rounds k (with_moment (Loses q t) (rounds k)) k (λ e. missed_in (rounds k) (good k) f g q may h.1) (λ n. absurd (n refl)),
    )

    pub missed_others : (f : File Entry) (whereabouts : Whereabouts) → MayMiss rounds whereabouts t → Fits rounds last f p whereabouts
        → (other : ℕ) → (other ≡ p → ⊥) → (g : File Entry) (there : Whereabouts) → Fits rounds last g other there → Fits (with_moment_at whereabouts (λ q. Loses q t) rounds) last g other there
    missed_others f Away may own other n g there h = absurd may
    missed_others f (Before s) may own other n g there h = h
    missed_others f (Inside k q) may own other n g there h = fits_still rounds last good k (Loses q t) p (seat_in (rounds k) f p q own.1) other n g there h

-- joining

module _ (w : Site) (p q n : ℕ) (may : MayJoin w p q n) (good : IsGood may.round) where
  pub seat_worker : IsWorker may.round.givens q
  seat_worker =
      let written = may.round.written in
      let range = in_range p written.first written.workers written.givens.workers q (sound_parts written good.sound).first may.seat in
      record { low = range.0; high = subst (λ k. q ≤ k) (sym good.workers) range.1 }

  pub may_begin : MayBeIn (w.rounds w.last) (Begins q n)
  may_begin = subst (λ o. MayBeIn o (Begins q n)) (sym may.stands) seat_worker

  pub seat_joined : HasSeat (w.rounds w.last) p q
  seat_joined = subst (λ o. HasSeat o p q) (sym may.stands) may.seat

  joined_in : (f : File Entry) → f.loose ≡ [] → n ≡ intents f.kept + 1 → FitsIn (Some (record may.round { moments = may.round.moments ++ Begins q n ∷ [] })) f p q
  joined_in f tight next = (
    may.seat,
    subst (λ s. IsReady may.round.written.lines f s) (sym (stands_first may.round.givens may.round.moments good.history q n seat_worker)) ((λ b. tight), tt, next),
  )

  pub joined_fits : (f : File Entry) → f.loose ≡ [] → n ≡ intents f.kept + 1 → Fits (with_at w.rounds w.last (with_moment (Begins q n) (w.rounds w.last))) w.last f p (Inside w.last q)
  joined_fits f tight next = (
    refl,
    at_number (λ o. FitsIn o f p q) w.rounds w.last (with_moment (Begins q n) (w.rounds w.last)) w.last
        (λ e. subst (λ o. FitsIn (with_moment (Begins q n) o) f p q) (sym may.stands) (joined_in f tight next))
        (λ n. absurd (n refl)),
  )
