-- No job is handed to a partner twice.
use Rattle.std.proofs.Common.{◌≡◌, ⊎_elim, ℕ, ◌≤◌, false, ◌||◌, refl, sym, ap, ◌∙◌, subst, List, [], ◌∷◌, ◌++◌, Some, None}
use Rattle.std.proofs.lemmas.Bool.{ne_eqb, cases_eq, or_from}
use Rattle.std.proofs.lemmas.Option.{none-some}
use Rattle.amo_sets.specs.Sets.{has, AreDistinct}
use Rattle.amo_sets.proofs.Numbers.{has-append}
use Rattle.amo_params.specs.Givens.{IsWorker}
use Rattle.amo_params.specs.declared.givens.Givens.{Givens}
use Rattle.amo_process.specs.Shared.{first_shared, shared_of, told_to_perform, AreOfWorkers}
use Rattle.amo_process.specs.declared.model.Happening.{Happening}
use Rattle.amo_driver.specs.declared.model.Try.{Try}
use Rattle.amo_driver.specs.declared.model.Try.TheVariants.{Perform}
use Rattle.amo_driver.specs.Course.{try_of, due}
use Rattle.amo_driver_safety.specs.Scene.{Scene, first_scene, stage_at, scene_after, MayBe, IsHistoryFrom, IsHistory, handed_by_try, handed_by, handed_jobs}
use Rattle.amo_driver_safety.specs.Tries.{worker_of, tried_in}
use Rattle.amo_driver_safety.specs.declared.model.Moment.{Moment}
use Rattle.amo_driver_safety.specs.declared.model.Moment.TheVariants.{Does, Loses, Begins}
use Rattle.amo_driver_safety.proofs.Histories.{happenings_at, shared-append, workers-append, moment_workers, ShowsScene, first_scene_shows, moment_shows}
use Rattle.amo_driver_safety.proofs.Intents.{Reached, reach_next, performed_by_it, handing_begun}

-- once p got a job, and p has handed it to its partner, nobody does so again
module _ (g : Givens) (hs : List Happening) (w : AreOfWorkers g hs) (p : ℕ) (o : IsWorker g p) (j : ℕ) (low : 1 ≤ j) (told : told_to_perform g (shared_of g hs) p ≡ j) where
  not_here : (sc : Scene) (mid : List Moment) → Reached g hs w p o j low told None sc mid → (q : ℕ) → IsWorker g q → (t : Try) → due (stage_at sc q) ≡ Some t → has (handed_by_try t) j ≡ false
  not_here sc mid r q v (Perform n i) e = ⊎_elim
      (λ (same : i ≡ j). absurd (none-some n (performed_by_it g hs w p o j low told None sc mid r q n v (e ∙ ap (λ k. Some (Perform n k)) same)).1))
      (λ other. ap (λ b. b || false) (ne_eqb i j other))
      (cases_eq i j)
  not_here sc mid r q v t e = refl

  moment_not_here : (sc : Scene) (mid : List Moment) → Reached g hs w p o j low told None sc mid → (m : Moment) → MayBe g sc m → has (handed_by m) j ≡ false
  moment_not_here sc mid r (Does q d) h = not_here sc mid r q h.0 (try_of d) h.1
  moment_not_here sc mid r (Loses q t) h = not_here sc mid r q h.0 t h.1
  moment_not_here sc mid r (Begins q n) h = refl

  never : (sc : Scene) (mid : List Moment) → Reached g hs w p o j low told None sc mid → (ms : List Moment) → IsHistoryFrom g sc ms → has (handed_jobs ms) j ≡ false
  never sc mid r [] h = refl
  never sc mid r (m ∷ ms) h =
      has-append (handed_by m) (handed_jobs ms) j
      ∙ or_from _ _ (moment_not_here sc mid r m h.0)
      (never (scene_after g sc m) (mid ++ m ∷ []) (reach_next g hs w p o j low told None sc mid m r h.0) ms h.1)

-- the job of this moment, and those of the moments after it
module _ (g : Givens) (hs : List Happening) (w : AreOfWorkers g hs) (sc : Scene) (shows : ShowsScene g sc (shared_of g hs)) where
  by_try : (m : Moment) → MayBe g sc m → (ms : List Moment) → IsHistoryFrom g (scene_after g sc m) ms → AreDistinct (handed_jobs ms)
      → (t : Try) → tried_in m ≡ Some t → AreDistinct (handed_by_try t ++ handed_jobs ms)
  by_try m may ms h rest (Perform n i) is =
      let b = handing_begun g hs w sc shows m n i may is in
      (never g hs w (worker_of m) b.worker i b.low b.told (scene_after g sc m) [] b.reached ms h, rest)
  by_try m may ms h rest t is = rest

  by_moment : (m : Moment) → MayBe g sc m → (ms : List Moment) → IsHistoryFrom g (scene_after g sc m) ms → AreDistinct (handed_jobs ms) → AreDistinct (handed_by m ++ handed_jobs ms)
  by_moment (Does p d) may ms h rest = by_try (Does p d) may ms h rest (try_of d) refl
  by_moment (Loses p t) may ms h rest = by_try (Loses p t) may ms h rest t refl
  by_moment (Begins p n) may ms h rest = rest

all_distinct : (g : Givens) (hs : List Happening) → AreOfWorkers g hs → (sc : Scene) → ShowsScene g sc (shared_of g hs) → (ms : List Moment) → IsHistoryFrom g sc ms → AreDistinct (handed_jobs ms)
all_distinct g hs w sc shows [] h = tt
all_distinct g hs w sc shows (m ∷ ms) h = by_moment g hs w sc shows m h.0 ms h.1
    (all_distinct g (hs ++ happenings_at sc m) (workers-append g hs (happenings_at sc m) w (moment_workers g sc m h.0)) (scene_after g sc m)
    (subst (λ y. ShowsScene g (scene_after g sc m) y) (sym (shared-append g (first_shared g) hs (happenings_at sc m))) (moment_shows g sc (shared_of g hs) m shows h.0))
    ms h.1)

pub handed_once : (g : Givens) (ms : List Moment) → IsHistory g ms → AreDistinct (handed_jobs ms)
handed_once g ms h = all_distinct g [] tt (first_scene g) (first_scene_shows g) ms h
