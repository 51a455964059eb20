-- The place of a process that tries an intent: in the last round, by the lines of which that intent
-- is named.
use Rattle.std.proofs.Common.{◌≡◌, ℕ, List, Option, Some, None, refl, sym, ap, ◌∙◌, subst}
use Rattle.std.proofs.lemmas.Bool.{true≢false}
use Rattle.amo_sets.specs.Lists.{numbered}
use Rattle.amo_params.specs.Givens.{IsJob}
use Rattle.amo_driver.specs.declared.model.Try.{Try}
use Rattle.amo_driver.specs.declared.model.Try.TheVariants.{Intend}
use Rattle.amo_driver.specs.Stage.{Stage}
use Rattle.amo_driver.specs.Course.{try_of, due}
use Rattle.amo_driver_safety.specs.Scene.{scene_of, MayBe}
use Rattle.amo_driver_safety.specs.Tries.{worker_of, tried_in}
use Rattle.amo_driver_safety.specs.declared.model.Moment.{Moment}
use Rattle.amo_driver_safety.specs.declared.model.Moment.TheVariants.{Does, Loses}
use Rattle.amo_driver_safety.proofs.Stages.{intending_at}
use Rattle.amo_driver_safety.proofs.Intents.{tried_due}
use Rattle.amo_run_files.specs.Rounds.{seat_of}
use Rattle.amo_run_safety.specs.Site.{Whereabouts, Away, Before, Inside, Round, Site, Event, Acts, Misses, lines_of, lines_at}
use Rattle.amo_run_safety.specs.Run.{with_moment, with_moment_at, site_after, MayBeIn, MayAct, MayMiss, MayHappen}
use Rattle.amo_run_safety.proofs.Reading.{IsIntent, TriesIntent}
use Rattle.amo_run_safety.proofs.Moments.{intended_job}
use Rattle.amo_run_safety.proofs.Stages.{is_asking}
use Rattle.amo_run_safety.proofs.Sane.{IsGood, IsGoodIf, FitsIn, Fits, IsSane}
use Rattle.amo_run_safety.proofs.Handed.{moment_there}

-- In this event worker p tries its intent n of a job of the last round, which is of this line.
pub record IntendsHere (w : Site) (after : Option Round) (p n line : ℕ) : Type 0 where
  pub round : Round
  pub stands : w.rounds w.last ≡ Some round
  pub good : IsGood round
  pub moment : Moment
  pub job : ℕ
  pub may : MayBe round.givens (scene_of round.givens round.moments) moment
  pub tries : tried_in moment ≡ Some (Intend n job)
  pub line_is : numbered 0 round.written.lines job ≡ line
  pub seat : seat_of p round.written.first round.written.workers round.written.givens.workers ≡ Some (worker_of moment)
  pub afterwards : after ≡ with_moment moment (w.rounds w.last)

-- that is a job of the round
pub job_of : {w : Site} {after : Option Round} {p n line : ℕ} → (it : IntendsHere w after p n line) → IsJob it.round.givens it.job
job_of {w} {after} {p} {n} {line} it =
    let its = tried_due it.round.givens (scene_of it.round.givens it.round.moments) it.moment (Intend n it.job) it.may it.tries in
    intended_job it.round.givens it.round.moments it.good.history (worker_of it.moment) n it.job its.0 its.1

module _ (w : Site) (said : List (ℕ × ℕ)) (sane : IsSane w said) (p n line : ℕ) (t : Try) where
  intends_in : (o : Option Round) → w.rounds w.last ≡ o → IsGoodIf o → (q : ℕ) → FitsIn o (w.journals p) p q → (m : Moment) → MayBeIn o m → worker_of m ≡ q → tried_in m ≡ Some t
      → IsIntent (lines_of o) t n line → (after : Option Round) → after ≡ with_moment m (w.rounds w.last) → IntendsHere w after p n line
  intends_in None is good q fits m may of tries intent after afterwards = absurd may
  intends_in (Some r) is good q fits m may of tries intent after afterwards = record {
    round = r;
    stands = is;
    good = good;
    moment = m;
    job = intent.job;
    may = may;
    tries = tries ∙ ap (λ x. Some x) intent.is;
    line_is = intent.line_is;
    seat = fits.0 ∙ ap (λ x. Some x) (sym of);
    afterwards = afterwards;
  }

  module _ (moment : ℕ → Moment) (of : (q : ℕ) → worker_of (moment q) ≡ q) (tries : (q : ℕ) → tried_in (moment q) ≡ Some t) where
    intends_at : (whereabouts : Whereabouts) → w.whereabouts p ≡ whereabouts → (whereabouts ≡ Away → ⊥) → ((s : Stage) → whereabouts ≡ Before s → due s ≡ Some t) → ((k q : ℕ) → whereabouts ≡ Inside k q → MayBeIn (w.rounds k) (moment q))
        → IsIntent (lines_at w.rounds whereabouts) t n line → IntendsHere w (with_moment_at whereabouts moment w.rounds w.last) p n line
    intends_at Away at away asks being intent = absurd (away refl)
    intends_at (Before s) at away asks being intent =
        let fits : Fits w.rounds w.last (w.journals p) p (Before s) = subst (λ whereabouts. Fits w.rounds w.last (w.journals p) p whereabouts) at (sane.whereabouts p) in
        let there = intending_at s n intent.job (asks s refl ∙ ap (λ x. Some x) intent.is) in
        absurd (true≢false (sym fits.0 ∙ ap is_asking there.1))
    intends_at (Inside k q) at away asks being intent =
        let fits : Fits w.rounds w.last (w.journals p) p (Inside k q) = subst (λ whereabouts. Fits w.rounds w.last (w.journals p) p whereabouts) at (sane.whereabouts p) in
        intends_in (w.rounds w.last) refl (sane.rounds w.last) q (subst (λ x. FitsIn (w.rounds x) (w.journals p) p q) fits.0 fits.1) (moment q)
        (subst (λ x. MayBeIn (w.rounds x) (moment q)) fits.0 (being k q refl)) (of q) (tries q)
        (subst (λ x. IsIntent (lines_of (w.rounds x)) t n line) fits.0 intent)
        (with_moment_at (Inside k q) moment w.rounds w.last) (moment_there w.rounds k w.last fits.0 (moment q))

pub intends_here : (w : Site) (said : List (ℕ × ℕ)) → IsSane w said → (e : Event) → MayHappen w e → (p n line : ℕ) → TriesIntent w e p n line → IntendsHere w ((site_after w e).rounds (site_after w e).last) p n line
intends_here w said sane (Acts q time d) may p n line tries =
    intends_at w said sane p n line (try_of d) (λ seat. Does seat d) (λ seat. refl) (λ seat. refl) (w.whereabouts q) (ap (λ x. w.whereabouts x) tries.0)
    (λ e. subst (λ whereabouts. MayAct w.rounds whereabouts d) e may.1)
    (λ s e. subst (λ whereabouts. MayAct w.rounds whereabouts d) e may.1)
    (λ k seat e. subst (λ whereabouts. MayAct w.rounds whereabouts d) e may.1)
    tries.1
intends_here w said sane (Misses q time t) may p n line tries =
    intends_at w said sane p n line t (λ seat. Loses seat t) (λ seat. refl) (λ seat. refl) (w.whereabouts q) (ap (λ x. w.whereabouts x) tries.0)
    (λ e. subst (λ whereabouts. MayMiss w.rounds whereabouts t) e may.1)
    (λ s e. subst (λ whereabouts. MayMiss w.rounds whereabouts t) e may.1)
    (λ k seat e. subst (λ whereabouts. MayMiss w.rounds whereabouts t) e may.1)
    tries.1
intends_here w said sane e may p n line tries = absurd tries
