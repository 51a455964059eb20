-- A history with one moment more, and the job that is handed over in it.
use Rattle.std.proofs.Common.{◌≡◌, ◌≢◌, ⊎_elim, ℕ, false, List, [], ◌∷◌, ◌++◌, Some, refl, sym, ap, ◌∙◌, subst, append_assoc, append-nil}
use Rattle.std.specs.Prelude.{◌==◌}
use Rattle.std.proofs.lemmas.Bool.{true≢false, cases_eq, ne_eqb, or_from}
use Rattle.amo_sets.specs.Lists.{numbered}
use Rattle.amo_sets.specs.Sets.{has, AreDistinct}
use Rattle.amo_sets.proofs.Numbers.{numbered-put_other, has_push}
use Rattle.amo_params.specs.Givens.{IsWorker, IsJob}
use Rattle.amo_kk.specs.Lawful.{FitsPhase}
use Rattle.amo_params.specs.declared.givens.Givens.{Givens}
use Rattle.amo_process.specs.Heard.{standing_of}
use Rattle.amo_process.specs.Shared.{shared_of, AreOfWorkers}
use Rattle.amo_process.specs.declared.model.Happening.{Happening}
use Rattle.amo_process.proofs.Hearing.{going_sound}
use Rattle.amo_driver.specs.declared.model.Deed.{Deed}
use Rattle.amo_driver.specs.declared.model.Try.{Try}
use Rattle.amo_driver.specs.declared.model.Try.TheVariants.{Intend, Perform}
use Rattle.amo_driver.specs.Stage.{Gone, Broken}
use Rattle.amo_driver.specs.Course.{due, stage_after, first_stage}
use Rattle.amo_driver_safety.specs.Scene.{Scene, first_scene, stage_at, scene_after, scene_after_all, scene_of, MayBe, IsHistoryFrom, IsHistory, handed_by, handed_jobs}
use Rattle.amo_driver_safety.specs.Tries.{worker_of}
use Rattle.amo_driver_safety.specs.declared.model.Moment.{Moment}
use Rattle.amo_driver_safety.specs.declared.model.Moment.TheVariants.{Does, Loses, Begins}
use Rattle.amo_driver_safety.proofs.Histories.{ShowsScene, stage_is, shown_all}
use Rattle.amo_driver_safety.proofs.Spent.{IsTold, here_told, here_intends}
use Rattle.amo_driver_safety.proofs.Claims.{told_holds}
use Rattle.amo_driver_safety.proofs.Once.{handed_once}

scene_more : (g : Givens) (sc : Scene) (ms : List Moment) (m : Moment) → scene_after_all g sc (ms ++ m ∷ []) ≡ scene_after g (scene_after_all g sc ms) m
scene_more g sc [] m = refl
scene_more g sc (x ∷ ms) m = scene_more g (scene_after g sc x) ms m

history_more : (g : Givens) (sc : Scene) (ms : List Moment) (m : Moment) → IsHistoryFrom g sc ms → MayBe g (scene_after_all g sc ms) m → IsHistoryFrom g sc (ms ++ m ∷ [])
history_more g sc [] m h may = (may, tt)
history_more g sc (x ∷ ms) m h may = (h.0, history_more g (scene_after g sc x) ms m h.1 may)

handed_more : (ms : List Moment) (m : Moment) → handed_jobs (ms ++ m ∷ []) ≡ handed_jobs ms ++ handed_by m
handed_more [] m = append-nil (handed_by m)
handed_more (x ∷ ms) m = ap (λ l. handed_by x ++ l) (handed_more ms m) ∙ sym (append_assoc (handed_by x) (handed_jobs ms) (handed_by m))

last_differs : (xs : List ℕ) (j : ℕ) → AreDistinct (xs ++ j ∷ []) → has xs j ≡ false
last_differs [] j h = refl
last_differs (x ∷ xs) j h = ⊎_elim
    (λ (e : x ≡ j). absurd (true≢false (sym (has_push xs j) ∙ ap (λ k. has (xs ++ j ∷ []) k) (sym e) ∙ h.0)))
    (λ n. or_from (x == j) (has xs j) (ne_eqb x j n) (last_differs xs j h.1))
    (cases_eq x j)

-- another worker keeps its stage
other_stands : (g : Givens) (sc : Scene) (m : Moment) (q : ℕ) → q ≢ worker_of m → stage_at (scene_after g sc m) q ≡ stage_at sc q
other_stands g sc (Does p d) q n = numbered-put_other Gone (stage_after (stage_at sc p) d) sc.stages p q n
other_stands g sc (Loses p t) q n = numbered-put_other Gone Broken sc.stages p q n
other_stands g sc (Begins p k) q n = numbered-put_other Gone (first_stage g p k) sc.stages p q n

module _ (g : Givens) (ms : List Moment) (h : IsHistory g ms) where
  pub longer : (m : Moment) → MayBe g (scene_of g ms) m → IsHistory g (ms ++ m ∷ [])
  longer m may = history_more g (first_scene g) ms m h may

  scene_is : (m : Moment) → scene_of g (ms ++ m ∷ []) ≡ scene_after g (scene_of g ms) m
  scene_is m = scene_more g (first_scene g) ms m

  shows : (all : List Happening) × AreOfWorkers g all × ShowsScene g (scene_of g ms) (shared_of g all)
  shows = shown_all g ms h

  pub others_stand : (m : Moment) (q : ℕ) → q ≢ worker_of m → stage_at (scene_of g (ms ++ m ∷ [])) q ≡ stage_at (scene_of g ms) q
  others_stand m q n = ap (λ (sc : Scene). stage_at sc q) (scene_is m) ∙ other_stands g (scene_of g ms) m q n

  -- the stage of the last moment's worker after it

  pub stands_after : (q : ℕ) (d : Deed) → IsWorker g q → stage_at (scene_of g (ms ++ Does q d ∷ [])) q ≡ stage_after (stage_at (scene_of g ms) q) d
  stands_after q d o = ap (λ (sc : Scene). stage_at sc q) (scene_is (Does q d)) ∙ stage_is g (scene_of g ms) (shared_of g shows.0) shows.2 q o (stage_after (stage_at (scene_of g ms) q) d)

  pub stands_broken : (q : ℕ) (t : Try) → IsWorker g q → stage_at (scene_of g (ms ++ Loses q t ∷ [])) q ≡ Broken
  stands_broken q t o = ap (λ (sc : Scene). stage_at sc q) (scene_is (Loses q t)) ∙ stage_is g (scene_of g ms) (shared_of g shows.0) shows.2 q o Broken

  pub stands_first : (q n : ℕ) → IsWorker g q → stage_at (scene_of g (ms ++ Begins q n ∷ [])) q ≡ first_stage g q n
  stands_first q n o = ap (λ (sc : Scene). stage_at sc q) (scene_is (Begins q n)) ∙ stage_is g (scene_of g ms) (shared_of g shows.0) shows.2 q o (first_stage g q n)

  -- what is handed over is a job, and was not handed over before

  told_job : (q j : ℕ) → IsWorker g q → IsTold g q (numbered [] (shared_of g shows.0).lists q) (stage_at (scene_of g ms) q) j → IsJob g j
  told_job q j o told =
      let heard = numbered [] (shared_of g shows.0).lists q in
      let holds = told_holds j told.low (standing_of g q heard) told.job in
      let sound = going_sound g q heard holds.machine false o holds.stands in
      (subst (λ x. FitsPhase g q holds.machine.state x) holds.phase sound.stands).0

  pub handed_job : (q n j : ℕ) → IsWorker g q → due (stage_at (scene_of g ms) q) ≡ Some (Perform n j) → IsJob g j
  handed_job q n j o e = told_job q j o (here_told g q (numbered [] (shared_of g shows.0).lists q) (stage_at (scene_of g ms) q) n j (shows.2.shown q o) e)

  pub intended_job : (q n j : ℕ) → IsWorker g q → due (stage_at (scene_of g ms) q) ≡ Some (Intend n j) → IsJob g j
  intended_job q n j o e = told_job q j o (here_intends g q (numbered [] (shared_of g shows.0).lists q) (stage_at (scene_of g ms) q) n j (shows.2.shown q o) e)

  pub handed_first : (m : Moment) (j : ℕ) → MayBe g (scene_of g ms) m → handed_by m ≡ j ∷ [] → has (handed_jobs ms) j ≡ false
  handed_first m j may is = last_differs (handed_jobs ms) j (
      subst (λ l. AreDistinct l) (handed_more ms m ∙ ap (λ l. handed_jobs ms ++ l) is) (handed_once g (ms ++ m ∷ []) (longer m may)))

pub handed_then : (ms : List Moment) (m : Moment) → handed_jobs (ms ++ m ∷ []) ≡ handed_jobs ms ++ handed_by m
handed_then = handed_more
