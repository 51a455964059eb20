-- The facts that hold in each run at each moment, for the intents that are noted as not begun or
-- not done.
use Rattle.std.proofs.Common.{◌≡◌, ⊎_elim, ℕ, true, false, List, [], ◌∷◌, ◌++◌, Option, Some, None, refl, sym, ap, ◌∙◌, subst}
use Rattle.std.specs.Prelude.{⊤, if◌then◌else◌}
use Rattle.std.specs.List.{AllByRecursion}
use Rattle.std.proofs.lemmas.Bool.{true≢false, cases_eq, eq-eqb, ne_eqb}
use Rattle.amo_driver.specs.Stage.{Stage}
use Rattle.amo_driver_safety.specs.Scene.{stage_at, scene_of, IsHistory}
use Rattle.amo_driver_safety.specs.Tries.{worker_of}
use Rattle.amo_driver_safety.specs.declared.model.Moment.{Moment}
use Rattle.amo_run_log.specs.declared.entry.Entry.{Entry}
use Rattle.amo_run_log.specs.Findings.{is_undone}
use Rattle.amo_run_log.specs.Grammar.{intents}
use Rattle.amo_run_log.specs.Open.{IsAnswer, NoneOpens}
use Rattle.amo_run_files.specs.Records.{is_sound}
use Rattle.amo_run_files.specs.Rounds.{seat_of}
use Rattle.amo_run_files.proofs.SeatLaws.{one_each}
use Rattle.amo_run_safety.specs.File.{File}
use Rattle.amo_run_safety.specs.Site.{Whereabouts, Away, Before, Inside, Round, Site, first_site, IsNumber, is_inside, with_at}
use Rattle.amo_run_safety.specs.Run.{with_moment, is_among}
use Rattle.amo_run_safety.proofs.Files.{all_of}
use Rattle.amo_run_safety.proofs.Moments.{others_stand}
use Rattle.amo_run_safety.proofs.Records.{sound_parts, seated_number}
use Rattle.amo_run_safety.proofs.Stages.{is_broken, is_asking, IsPut}
use Rattle.amo_run_safety.proofs.Counted.{IsCounted}

-- one of many that go by numbers

pub at_number : {A : Type 0} (P : A → Type 0) (f : ℕ → A) (p : ℕ) (x : A) (q : ℕ) → (q ≡ p → P x) → ((q ≡ p → ⊥) → P (f q)) → P (with_at f p x q)
at_number P f p x q same other = ⊎_elim
    (λ (e : q ≡ p). subst (λ b. P (if b then x else f q)) (sym (eq-eqb q p e)) (same e))
    (λ (n : q ≡ p → ⊥). subst (λ b. P (if b then x else f q)) (sym (ne_eqb q p n)) (other n))
    (cases_eq q p)

pub at_both : {A : Type 0} {B : Type 0} (P : A → B → Type 0) (f : ℕ → A) (g : ℕ → B) (p : ℕ) (x : A) (y : B) (q : ℕ)
    → (q ≡ p → P x y) → ((q ≡ p → ⊥) → P (f q) (g q)) → P (with_at f p x q) (with_at g p y q)
at_both P f g p x y q same other = ⊎_elim
    (λ (e : q ≡ p). subst (λ b. P (if b then x else f q) (if b then y else g q)) (sym (eq-eqb q p e)) (same e))
    (λ (n : q ≡ p → ⊥). subst (λ b. P (if b then x else f q) (if b then y else g q)) (sym (ne_eqb q p n)) (other n))
    (cases_eq q p)

-- The events in the round are a history, and its record is one of its givens.
pub record IsGood (r : Round) : Type 0 where
  pub history : IsHistory r.givens r.moments
  pub sound : is_sound r.written ≡ true
  pub jobs : r.givens.jobs ≡ r.written.givens.jobs
  pub workers : r.givens.workers ≡ r.written.givens.workers

abbrev pub IsGoodIf : Option Round → Type 0
IsGoodIf None = ⊤
IsGoodIf (Some r) = IsGood r

-- At the stage of the round's worker nothing is loose in its journal, unless something has failed.
-- If it is to hand a job over, the intent is kept. Its serial numbers go by those of the journal.
abbrev pub IsReady : List ℕ → File Entry → Stage → Type 0
IsReady lines f s = (is_broken s ≡ false → f.loose ≡ []) × IsPut lines f.kept s × IsCounted (intents f.kept) s

abbrev pub FitsIn : Option Round → File Entry → ℕ → ℕ → Type 0
FitsIn None f p q = ⊥
FitsIn (Some r) f p q =
    (seat_of p r.written.first r.written.workers r.written.givens.workers ≡ Some q) × IsReady r.written.lines f (stage_at (scene_of r.givens r.moments) q)

-- worker p acts as this one of the round, if there is one
abbrev pub HasSeat : Option Round → ℕ → ℕ → Type 0
HasSeat None p q = ⊤
HasSeat (Some r) p q = seat_of p r.written.first r.written.workers r.written.givens.workers ≡ Some q

pub seat_in : (o : Option Round) (f : File Entry) (p q : ℕ) → FitsIn o f p q → HasSeat o p q
seat_in None f p q h = tt
seat_in (Some r) f p q h = h.0

pub number_in : (o : Option Round) → IsGoodIf o → (f : File Entry) (p q : ℕ) → FitsIn o f p q → IsNumber p
number_in None good f p q h = absurd h
number_in (Some r) good f p q h = seated_number r.written good.sound p q h.0

-- the process of worker p, whose journal this is, may be here; if it is in a round, that is the
-- last one
abbrev pub Fits : (ℕ → Option Round) → (last : ℕ) → File Entry → ℕ → Whereabouts → Type 0
Fits rounds last f p Away = ⊤
Fits rounds last f p (Before s) = (is_asking s ≡ true) × (is_broken s ≡ false → f.loose ≡ [])
Fits rounds last f p (Inside k q) = (k ≡ last) × FitsIn (rounds k) f p q

pub record IsSane (w : Site) (said : List (ℕ × ℕ)) : Type 0 where
  pub answers : (p n : ℕ) → is_among said p n ≡ false → NoneOpens n (all_of (w.journals p))
  pub owed : (p n : ℕ) → is_among said p n ≡ false → NoneOpens n (w.owed p)
  pub owing : (p : ℕ) → AllByRecursion IsAnswer (w.owed p)
  pub findings : (p n : ℕ) → is_among said p n ≡ false → is_undone (all_of w.findings) p n ≡ false
  pub rounds : (k : ℕ) → IsGoodIf (w.rounds k)
  pub whereabouts : (p : ℕ) → Fits w.rounds w.last (w.journals p) p (w.whereabouts p)

pub first_sane : IsSane first_site []
first_sane = record { answers = λ p n h. tt; owed = λ p n h. tt; owing = λ p. tt; findings = λ p n h. refl; rounds = λ k. tt; whereabouts = λ p. tt }

-- if nobody was in a round, all may be at their places, whichever rounds there are
pub fits_any : (rounds others : ℕ → Option Round) (last next : ℕ) → ((k : ℕ) → IsGoodIf (rounds k)) → (f : File Entry) (p : ℕ) (whereabouts : Whereabouts) → (IsNumber p → is_inside whereabouts ≡ false)
    → Fits rounds last f p whereabouts → Fits others next f p whereabouts
fits_any rounds others last next good f p Away nobody h = tt
fits_any rounds others last next good f p (Before s) nobody h = h
fits_any rounds others last next good f p (Inside k q) nobody h = absurd (true≢false (nobody (number_in (rounds k) (good k) f p q h.1)))

-- the others are not touched by a moment of one worker

module _ (r : Round) (good : IsGood r) (m : Moment) (p : ℕ) (seat : seat_of p r.written.first r.written.workers r.written.givens.workers ≡ Some (worker_of m)) where
  pub stands_still : (o : ℕ) → (o ≡ p → ⊥) → (q : ℕ) → seat_of o r.written.first r.written.workers r.written.givens.workers ≡ Some q
      → stage_at (scene_of r.givens (r.moments ++ m ∷ [])) q ≡ stage_at (scene_of r.givens r.moments) q
  stands_still o n q own = others_stand r.givens r.moments good.history m q (λ same. n (
      one_each o p r.written.first r.written.workers r.written.givens.workers q (sound_parts r.written good.sound).first own (seat ∙ ap (λ k. Some k) (sym same))))

in_still : (o : Option Round) → IsGoodIf o → (m : Moment) (p : ℕ) → HasSeat o p (worker_of m) → (other : ℕ) → (other ≡ p → ⊥) → (f : File Entry) (q : ℕ) → FitsIn o f other q → FitsIn (with_moment m o) f other q
in_still None good m p seat other n f q h = absurd h
in_still (Some r) good m p seat other n f q h = (h.0, subst (λ s. IsReady r.written.lines f s) (sym (stands_still r good m p seat other n q h.0)) h.1)

module _ (rounds : ℕ → Option Round) (last : ℕ) (good : (k : ℕ) → IsGoodIf (rounds k)) (k : ℕ) (m : Moment) (p : ℕ) (seat : HasSeat (rounds k) p (worker_of m)) where
  pub fits_still : (other : ℕ) → (other ≡ p → ⊥) → (f : File Entry) (whereabouts : Whereabouts) → Fits rounds last f other whereabouts → Fits (with_at rounds k (with_moment m (rounds k))) last f other whereabouts
  fits_still other n f Away h = tt
  fits_still other n f (Before s) h = h
  fits_still other n f (Inside i q) h = (
    h.0,
    at_number (λ o. FitsIn o f other q) rounds k (with_moment m (rounds k)) i
        (λ e. in_still (rounds k) (good k) m p seat other n f q (subst (λ x. FitsIn (rounds x) f other q) e h.1))
        (λ differs. h.1),
  )
