-- A property of the stage at which the worker of a round stands: it stays if others act, and if a
-- round is begun.
use Rattle.std.proofs.Common.{◌≡◌, ℕ, false, Option, Some, None, sym, subst}
use Rattle.std.specs.Prelude.{⊤}
use Rattle.std.proofs.lemmas.Bool.{true≢false}
use Rattle.amo_driver.specs.Stage.{Stage}
use Rattle.amo_driver_safety.specs.Scene.{stage_at, scene_of}
use Rattle.amo_driver_safety.specs.Tries.{worker_of}
use Rattle.amo_driver_safety.specs.declared.model.Moment.{Moment}
use Rattle.amo_run_log.specs.declared.entry.Entry.{Entry}
use Rattle.amo_run_safety.specs.File.{File}
use Rattle.amo_run_safety.specs.Site.{Whereabouts, Away, Before, Inside, Round, IsNumber, is_inside, with_at}
use Rattle.amo_run_safety.specs.Run.{with_moment, with_moment_at}
use Rattle.amo_run_safety.proofs.Sane.{at_number, IsGoodIf, FitsIn, HasSeat, seat_in, number_in, Fits, stands_still}

module _ (Q : Stage → Type 0) where
  -- the worker of this number in a round stands at such a stage
  abbrev pub StandsIn : Option Round → ℕ → Type 0
  StandsIn None q = ⊤
  StandsIn (Some r) q = Q (stage_at (scene_of r.givens r.moments) q)

  -- a process that is here does, if it is in a round
  abbrev pub StandsAt : (ℕ → Option Round) → Whereabouts → Type 0
  StandsAt rounds Away = ⊤
  StandsAt rounds (Before s) = ⊤
  StandsAt rounds (Inside k q) = StandsIn (rounds k) q

  -- if nobody was in a round, whichever rounds there are
  pub stands_any : (rounds others : ℕ → Option Round) (last : ℕ) → ((k : ℕ) → IsGoodIf (rounds k)) → (f : File Entry) (p : ℕ) (whereabouts : Whereabouts)
      → (IsNumber p → is_inside whereabouts ≡ false) → Fits rounds last f p whereabouts → StandsAt others whereabouts
  stands_any rounds others last good f p Away nobody h = tt
  stands_any rounds others last good f p (Before s) nobody h = tt
  stands_any rounds others last good f p (Inside k q) nobody h = absurd (true≢false (nobody (number_in (rounds k) (good k) f p q h.1)))

  -- a moment of worker p, and the whereabouts of another one

  still_in : (o : Option Round) → IsGoodIf o → (moment : Moment) (p : ℕ) → HasSeat o p (worker_of moment) → (other : ℕ) → (other ≡ p → ⊥) → (f : File Entry) (q : ℕ) → FitsIn o f other q
      → StandsIn o q → StandsIn (with_moment moment o) q
  still_in None good moment p seat other n f q fits h = h
  still_in (Some r) good moment p seat other n f q fits h = subst Q (sym (stands_still r good moment p seat other n q fits.0)) h

  module _ (rounds : ℕ → Option Round) (last : ℕ) (good : (k : ℕ) → IsGoodIf (rounds k)) where
    pub others_stand_in : (k : ℕ) (moment : Moment) (p : ℕ) → HasSeat (rounds k) p (worker_of moment) → (other : ℕ) → (other ≡ p → ⊥) → (f : File Entry) (there : Whereabouts)
        → Fits rounds last f other there → StandsAt rounds there → StandsAt (with_at rounds k (with_moment moment (rounds k))) there
    others_stand_in k moment p seat other n f Away fits h = tt
    others_stand_in k moment p seat other n f (Before s) fits h = tt
    others_stand_in k moment p seat other n f (Inside i q) fits h = at_number (λ o. StandsIn o q) rounds k (with_moment moment (rounds k)) i
        (λ e. still_in (rounds k) (good k) moment p seat other n f q (subst (λ x. FitsIn (rounds x) f other q) e fits.1) (subst (λ x. StandsIn (rounds x) q) e h))
        (λ n. h)

    pub others_stand_at : (whereabouts : Whereabouts) (moment : ℕ → Moment) → ((q : ℕ) → worker_of (moment q) ≡ q) → (g : File Entry) (p : ℕ) → Fits rounds last g p whereabouts
        → (other : ℕ) → (other ≡ p → ⊥) → (f : File Entry) (there : Whereabouts) → Fits rounds last f other there → StandsAt rounds there → StandsAt (with_moment_at whereabouts moment rounds) there
    others_stand_at Away moment is g p own other n f there fits h = h
    others_stand_at (Before s) moment is g p own other n f there fits h = h
    others_stand_at (Inside k q) moment is g p own other n f there fits h =
        others_stand_in k (moment q) p (subst (HasSeat (rounds k) p) (sym (is q)) (seat_in (rounds k) g p q own.1)) other n f there fits h
