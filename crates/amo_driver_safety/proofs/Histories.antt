-- Histories beside the happenings among processes, moment by moment.
use Rattle.std.proofs.Common.{◌≡◌, ⊎_elim, ℕ, refl, sym, ap, ◌∙◌, subst, arith, Bool, true, List, [], ◌∷◌, ◌++◌, length, set, Option, Some, None}
use Rattle.std.specs.Prelude.{if◌then◌else◌, slice_index}
use Rattle.std.proofs.lemmas.Bool.{true≢false, cases_eq}
use Rattle.amo_sets.specs.Lists.{numbered, put}
use Rattle.amo_sets.proofs.Numbers.{numbered-put_same, numbered-put_other, length-put, length-table}
use Rattle.amo_sets.proofs.Tables.{numbered-table}
use Rattle.amo_params.specs.Givens.{IsWorker}
use Rattle.amo_kk.specs.Words.{next_word}
use Rattle.amo_params.specs.declared.givens.Givens.{Givens}
use Rattle.amo_process.specs.Heard.{standing_of}
use Rattle.amo_process.specs.Stepped.{ProcessView, process_after, access_of, may_leave}
use Rattle.amo_process.specs.Shared.{Shared, first_shared, with_new_process, shared_after_leave, shared_after_access, shared_after, shared_after_all, shared_of, AreOfWorkers, HasNoStep}
use Rattle.amo_process.specs.declared.model.Happening.{Happening}
use Rattle.amo_process.specs.declared.model.Happening.TheVariants.{Steps, Begins as BeginsThere, Leaves}
use Rattle.amo_process.specs.declared.standing.Standing.{Standing}
use Rattle.amo_process.specs.declared.standing.Standing.TheVariants.{Beginning, Going as GoingOn}
use Rattle.amo_process.proofs.Accesses.{access_is_step}
use Rattle.amo_driver.specs.declared.answer.Way.{Way}
use Rattle.amo_driver.specs.declared.answer.Way.TheVariants.{Go}
use Rattle.amo_driver.specs.declared.model.Deed.{Deed}
use Rattle.amo_driver.specs.declared.model.Deed.TheVariants.{Loaded, Stored, Found, Intended, Cleared, Performed, Noted, Asked, Fell}
use Rattle.amo_driver.specs.declared.model.Try.{Try}
use Rattle.amo_driver.specs.declared.model.Try.TheVariants.{Load, Store, Find, Intend, Clear, Perform, Note, Ask}
use Rattle.amo_driver.specs.Stage.{Stage, Going, Leaving, Gone, Broken}
use Rattle.amo_driver.specs.Course.{try_of, due, stage_after, first_stage}
use Rattle.amo_driver_safety.specs.Scene.{Scene, first_scene, stage_at, scene_after, scene_after_all, scene_of, IsTrue, MayBe, IsHistoryFrom, IsHistory}
use Rattle.amo_driver_safety.specs.declared.model.Moment.{Moment}
use Rattle.amo_driver_safety.specs.declared.model.Moment.TheVariants.{Does, Loses, Begins}
use Rattle.amo_driver_safety.proofs.Stages.{Shown, tried_load, tried_store, load_only, store_only, hears_more, number_is, standing_is, access_is, told_shown, found_shown, intended_shown, cleared_shown, performed_shown, noted_shown, asked_for_shown}

-- what is tried at this stage, and comes about, as a happening: an access is a step, and the store
-- by which it leaves a leaving
abbrev pub happening : ℕ → Stage → Try → List Happening
happening p (Going s a way) (Load w) = Steps p ∷ []
happening p (Going s a way) (Store w v) = Steps p ∷ []
happening p (Leaving a) (Store w v) = Leaves p ∷ []
happening p s t = []

abbrev pub happening_done : ℕ → Stage → Deed → List Happening
happening_done p s (Loaded w v) = happening p s (Load w)
happening_done p s (Stored w v) = happening p s (Store w v)
happening_done p s d = []

abbrev pub happening_lost : ℕ → Stage → Try → List Happening
happening_lost p s (Store w v) = happening p s (Store w v)
happening_lost p s t = []

abbrev pub happenings_at : Scene → Moment → List Happening
happenings_at sc (Does p d) = happening_done p (stage_at sc p) d
happenings_at sc (Loses p t) = happening_lost p (stage_at sc p) t
happenings_at sc (Begins p n) = BeginsThere p ∷ []

-- happenings one after the other

pub shared-append : (g : Givens) (s : Shared) (xs ys : List Happening) → shared_after_all g s (xs ++ ys) ≡ shared_after_all g (shared_after_all g s xs) ys
shared-append g s [] ys = refl
shared-append g s (x ∷ xs) ys = shared-append g (shared_after g s x) xs ys

pub workers-append : (g : Givens) (xs ys : List Happening) → AreOfWorkers g xs → AreOfWorkers g ys → AreOfWorkers g (xs ++ ys)
workers-append g [] ys a b = b
workers-append g (Steps p ∷ xs) ys a b = (a.0, workers-append g xs ys a.1 b)
workers-append g (BeginsThere p ∷ xs) ys a b = (a.0, workers-append g xs ys a.1 b)
workers-append g (Leaves p ∷ xs) ys a b = (a.0, workers-append g xs ys a.1 b)

pub no_step_parts : (p : ℕ) (xs ys : List Happening) → HasNoStep p (xs ++ ys) → HasNoStep p xs × HasNoStep p ys
no_step_parts p [] ys n = (tt, n)
no_step_parts p (Steps q ∷ xs) ys n = let r = no_step_parts p xs ys n.1 in ((n.0, r.0), r.1)
no_step_parts p (BeginsThere q ∷ xs) ys n = let r = no_step_parts p xs ys n.1 in ((n.0, r.0), r.1)
no_step_parts p (Leaves q ∷ xs) ys n = no_step_parts p xs ys n

one_of_worker : (g : Givens) (p : ℕ) (s : Stage) (t : Try) → IsWorker g p → AreOfWorkers g (happening p s t)
one_of_worker g p (Going s a way) (Load w) o = (o, tt)
one_of_worker g p (Going s a way) (Store w v) o = (o, tt)
one_of_worker g p (Leaving a) (Store w v) o = (o, tt)
one_of_worker g p s t o = tt

pub moment_workers : (g : Givens) (sc : Scene) (m : Moment) → MayBe g sc m → AreOfWorkers g (happenings_at sc m)
moment_workers g sc (Does p (Loaded w v)) h = one_of_worker g p (stage_at sc p) (Load w) h.0
moment_workers g sc (Does p (Stored w v)) h = one_of_worker g p (stage_at sc p) (Store w v) h.0
moment_workers g sc (Does p (Found j)) h = tt
moment_workers g sc (Does p (Intended n j)) h = tt
moment_workers g sc (Does p (Cleared n j clear)) h = tt
moment_workers g sc (Does p (Performed n j reply)) h = tt
moment_workers g sc (Does p (Noted n c)) h = tt
moment_workers g sc (Does p (Asked n line reply)) h = tt
moment_workers g sc (Does p (Fell t)) h = tt
moment_workers g sc (Loses p (Load w)) h = tt
moment_workers g sc (Loses p (Store w v)) h = one_of_worker g p (stage_at sc p) (Store w v) h.0
moment_workers g sc (Loses p (Find j)) h = tt
moment_workers g sc (Loses p (Intend n j)) h = tt
moment_workers g sc (Loses p (Clear n j)) h = tt
moment_workers g sc (Loses p (Perform n j)) h = tt
moment_workers g sc (Loses p (Note n c)) h = tt
moment_workers g sc (Loses p (Ask n line)) h = tt
moment_workers g sc (Begins p n) h = (h, tt)

-- The words are the same, and the stage of each process shows the numbers that it has read.
pub record ShowsScene (g : Givens) (sc : Scene) (sh : Shared) : Type 0 where
  pub words : sh.words ≡ sc.words
  pub size : length sh.lists ≡ g.workers
  pub stages : length sc.stages ≡ g.workers
  pub shown : (p : ℕ) → IsWorker g p → Shown g p (numbered [] sh.lists p) (stage_at sc p)

pub first_scene_shows : (g : Givens) → ShowsScene g (first_scene g) (first_shared g)
first_scene_shows g = record {
  words = refl;
  size = length-table (λ _. []) g.workers;
  stages = length-table (λ _. Gone) g.workers;
  shown = λ p o. subst (λ s. Shown g p (numbered [] (first_shared g).lists p) s) (sym (numbered-table Gone (λ _. Gone) g.workers p o.low o.high)) tt;
}

-- the stage of p changes, and so do the numbers that its process has read

module _ (g : Givens) (sc : Scene) (sh : Shared) (shows : ShowsScene g sc sh) (p : ℕ) (o : IsWorker g p) where
  pub stage_is : (s : Stage) → numbered Gone (put sc.stages p s) p ≡ s
  stage_is s = numbered-put_same Gone s sc.stages p o.low (let h = o.high in let e = shows.stages in omega arith)

  changed : (s : Stage) (heard ws vs : List ℕ) → ws ≡ vs → Shown g p heard s
      → ShowsScene g (record { words = vs; stages = put sc.stages p s }) (record { words = ws; lists = put sh.lists p heard })
  changed s heard ws vs same mine = record {
    words = same;
    size = length-put heard sh.lists p ∙ shows.size;
    stages = length-put s sc.stages p ∙ shows.stages;
    shown = λ q w. ⊎_elim
        (λ (e : q ≡ p). subst (λ x. Shown g x (numbered [] (put sh.lists p heard) x) (numbered Gone (put sc.stages p s) x)) (sym e) here)
        (λ n.
        subst (λ l. Shown g q l (numbered Gone (put sc.stages p s) q)) (sym (numbered-put_other [] heard sh.lists p q n))
        (subst (λ z. Shown g q (numbered [] sh.lists q) z) (sym (numbered-put_other Gone s sc.stages p q n)) (shows.shown q w)))
        (cases_eq q p);
  }
    where
      here : Shown g p (numbered [] (put sh.lists p heard) p) (numbered Gone (put sc.stages p s) p)
      here =
          subst (λ l. Shown g p l (numbered Gone (put sc.stages p s) p)) (sym (numbered-put_same [] heard sh.lists p o.low (let h = o.high in let e = shows.size in omega arith)))
          (subst (λ z. Shown g p heard z) (sym (stage_is s)) mine)

  quiet : (s : Stage) → Shown g p (numbered [] sh.lists p) s → ShowsScene g (record { words = sc.words; stages = put sc.stages p s }) sh
  quiet s mine = record {
    words = shows.words;
    size = shows.size;
    stages = length-put s sc.stages p ∙ shows.stages;
    shown = λ q w. ⊎_elim
        (λ (e : q ≡ p). subst (λ x. Shown g x (numbered [] sh.lists x) (numbered Gone (put sc.stages p s) x)) (sym e) (subst (λ z. Shown g p (numbered [] sh.lists p) z) (sym (stage_is s)) mine))
        (λ n. subst (λ z. Shown g q (numbered [] sh.lists q) z) (sym (numbered-put_other Gone s sc.stages p q n)) (shows.shown q w))
        (cases_eq q p);
  }

  abbrev heard : List ℕ
  heard = numbered [] sh.lists p

  -- an access that is due is the step of the process
  step_is : (a : ProcessView) → Shown g p heard (Going 0 a Go) → shared_after g sh (Steps p) ≡ shared_after_access sh p (access_of a.givens a.number a.standing)
  step_is a f = access_is_step g sh p (standing_of g p heard) ∙ ap (shared_after_access sh p) (access_is g p heard a f)

  leave_is : (o : Option Standing) → may_leave o ≡ true → shared_after_leave g sh p o ≡ with_new_process sh p (set sh.words (next_word p) 0)
  leave_is None h = absurd (true≢false (sym h))
  leave_is (Some (Beginning word)) h = absurd (true≢false (sym h))
  leave_is (Some (GoingOn l fresh)) h = ap (λ (b : Bool). if b then with_new_process sh p (set sh.words (next_word p) 0) else sh) h

  loads : (s : Stage) (w v : ℕ) → Shown g p heard s → due s ≡ Some (Load w) → v ≡ slice_index sc.words w
      → ShowsScene g (record { words = sc.words; stages = put sc.stages p (stage_after s (Loaded w v)) }) (shared_after_all g sh (happening p s (Load w)))
  loads s w v f e is =
      let at = load_only s w e in
      subst (λ z. ShowsScene g (record { words = sc.words; stages = put sc.stages p (stage_after z (Loaded w v)) }) (shared_after_all g sh (happening p z (Load w)))) (sym at.3)
      (goes at.0 at.1 at.2 (subst (Shown g p heard) at.3 f) (sym (ap due at.3) ∙ e))
    where
      goes : (n : ℕ) (a : ProcessView) (way : Way) → Shown g p heard (Going n a way) → due (Going n a way) ≡ Some (Load w)
          → ShowsScene g (record { words = sc.words; stages = put sc.stages p (stage_after (Going n a way) (Loaded w v)) }) (shared_after g sh (Steps p))
      goes n a way f e =
          subst (λ x. ShowsScene g (record { words = sc.words; stages = put sc.stages p (stage_after (Going n a way) (Loaded w v)) }) x)
          (sym (step_is a f ∙ ap (shared_after_access sh p) (tried_load (access_of a.givens a.number a.standing) w e)))
          (changed (stage_after (Going n a way) (Loaded w v)) (heard ++ slice_index sh.words w ∷ []) sh.words sc.words shows.words
          (subst (λ x. Shown g p (heard ++ x ∷ []) (stage_after (Going n a way) (Loaded w v))) (is ∙ ap (λ l. slice_index l w) (sym shows.words))
          (told_shown g p (heard ++ v ∷ []) n (process_after a v) (hears_more g p heard a f v) w v way)))

  -- a store has come about, and then the process stands there
  stores : (s t : Stage) (w v : ℕ) → Shown g p heard s → due s ≡ Some (Store w v)
      → ((n : ℕ) (a : ProcessView) (way : Way) → s ≡ Going n a way → Shown g p (heard ++ 0 ∷ []) t) → ((a : ProcessView) → s ≡ Leaving a → Shown g p [] t)
      → ShowsScene g (record { words = set sc.words w v; stages = put sc.stages p t }) (shared_after_all g sh (happening p s (Store w v)))
  stores s t w v f e stepped left = ⊎_elim
      (λ (at : (n : ℕ) × (a : ProcessView) × (way : Way) × (s ≡ Going n a way)).
      subst (λ z. ShowsScene g (record { words = set sc.words w v; stages = put sc.stages p t }) (shared_after_all g sh (happening p z (Store w v)))) (sym at.3)
      (goes at.1 (subst (Shown g p heard) at.3 f) (sym (ap due at.3) ∙ e) (stepped at.0 at.1 at.2 at.3)))
      (λ (at : (a : ProcessView) × (s ≡ Leaving a) × (w ≡ next_word a.number) × (v ≡ 0)).
      subst (λ z. ShowsScene g (record { words = set sc.words w v; stages = put sc.stages p t }) (shared_after_all g sh (happening p z (Store w v)))) (sym at.1)
      (leaves at.0 (subst (Shown g p heard) at.1 f) at.2 at.3 (left at.0 at.1)))
      (store_only s w v e)
    where
      goes : (a : ProcessView) → Shown g p heard (Going 0 a Go) → due (Going 0 a Go) ≡ Some (Store w v) → Shown g p (heard ++ 0 ∷ []) t
          → ShowsScene g (record { words = set sc.words w v; stages = put sc.stages p t }) (shared_after g sh (Steps p))
      goes a f e then_shown =
          subst (λ x. ShowsScene g (record { words = set sc.words w v; stages = put sc.stages p t }) x)
          (sym (step_is a f ∙ ap (shared_after_access sh p) (tried_store (access_of a.givens a.number a.standing) w v e)))
          (changed t (heard ++ 0 ∷ []) (set sh.words w v) (set sc.words w v) (ap (λ l. set l w v) shows.words) then_shown)

      leaves : (a : ProcessView) → Shown g p heard (Leaving a) → w ≡ next_word a.number → v ≡ 0 → Shown g p [] t
          → ShowsScene g (record { words = set sc.words w v; stages = put sc.stages p t }) (shared_after g sh (Leaves p))
      leaves a f word value then_shown =
          subst (λ x. ShowsScene g (record { words = set sc.words w v; stages = put sc.stages p t }) x)
          (sym (leave_is (standing_of g p heard) (sym (ap may_leave (standing_is g p heard a f.0)) ∙ f.1)
          ∙ (λ i. with_new_process sh p (set sh.words (sym (word ∙ number_is g p heard a f.0) i) (sym value i)))))
          (changed t [] (set sh.words w v) (set sc.words w v) (ap (λ l. set l w v) shows.words) then_shown)

  does : (d : Deed) → due (stage_at sc p) ≡ Some (try_of d) → IsTrue sc.words d → ShowsScene g (scene_after g sc (Does p d)) (shared_after_all g sh (happening_done p (stage_at sc p) d))
  does (Loaded w v) e is = loads (stage_at sc p) w v (shows.shown p o) e is
  does (Stored w v) e is = stores (stage_at sc p) (stage_after (stage_at sc p) (Stored w v)) w v (shows.shown p o) e
      (λ n a way at. subst (λ z. Shown g p (heard ++ 0 ∷ []) (stage_after z (Stored w v))) (sym at)
      (told_shown g p (heard ++ 0 ∷ []) n (process_after a 0) (hears_more g p heard a (subst (Shown g p heard) at (shows.shown p o)) 0) w v way))
      (λ a at. subst (λ z. Shown g p [] (stage_after z (Stored w v))) (sym at) tt)
  does (Found j) e is = quiet (stage_after (stage_at sc p) (Found j)) (found_shown g p heard (stage_at sc p) j (shows.shown p o))
  does (Intended n j) e is = quiet (stage_after (stage_at sc p) (Intended n j)) (intended_shown g p heard (stage_at sc p) n j (shows.shown p o))
  does (Cleared n j clear) e is = quiet (stage_after (stage_at sc p) (Cleared n j clear)) (cleared_shown g p heard (stage_at sc p) n j clear (shows.shown p o))
  does (Performed n j reply) e is = quiet (stage_after (stage_at sc p) (Performed n j reply)) (performed_shown g p heard (stage_at sc p) n j reply (shows.shown p o))
  does (Noted n c) e is = quiet (stage_after (stage_at sc p) (Noted n c)) (noted_shown g p heard (stage_at sc p) n c (shows.shown p o))
  does (Asked n line reply) e is = quiet (stage_after (stage_at sc p) (Asked n line reply)) (asked_for_shown g p heard (stage_at sc p) n line reply (shows.shown p o))
  does (Fell t) e is = quiet Broken tt

  loses : (t : Try) → due (stage_at sc p) ≡ Some t → ShowsScene g (scene_after g sc (Loses p t)) (shared_after_all g sh (happening_lost p (stage_at sc p) t))
  loses (Load w) e = quiet Broken tt
  loses (Store w v) e = stores (stage_at sc p) Broken w v (shows.shown p o) e (λ n a way at. tt) (λ a at. tt)
  loses (Find j) e = quiet Broken tt
  loses (Intend n j) e = quiet Broken tt
  loses (Clear n j) e = quiet Broken tt
  loses (Perform n j) e = quiet Broken tt
  loses (Note n c) e = quiet Broken tt
  loses (Ask n line) e = quiet Broken tt

  begins : (n : ℕ) → ShowsScene g (scene_after g sc (Begins p n)) (shared_after g sh (BeginsThere p))
  begins n = changed (first_stage g p n) [] sh.words sc.words shows.words refl

pub moment_shows : (g : Givens) (sc : Scene) (sh : Shared) (m : Moment) → ShowsScene g sc sh → MayBe g sc m → ShowsScene g (scene_after g sc m) (shared_after_all g sh (happenings_at sc m))
moment_shows g sc sh (Does p d) shows h = does g sc sh shows p h.0 d h.1 h.2
moment_shows g sc sh (Loses p t) shows h = loses g sc sh shows p h.0 t h.1
moment_shows g sc sh (Begins p n) shows h = begins g sc sh shows p h n

-- histories in parts

pub history_parts : (g : Givens) (sc : Scene) (xs ys : List Moment) → IsHistoryFrom g sc (xs ++ ys) → IsHistoryFrom g sc xs × IsHistoryFrom g (scene_after_all g sc xs) ys
history_parts g sc [] ys h = (tt, h)
history_parts g sc (x ∷ xs) ys h = let parts = history_parts g (scene_after g sc x) xs ys h.1 in ((h.0, parts.0), parts.1)

pub scene_parts : (g : Givens) (sc : Scene) (xs ys : List Moment) → scene_after_all g sc (xs ++ ys) ≡ scene_after_all g (scene_after_all g sc xs) ys
scene_parts g sc [] ys = refl
scene_parts g sc (x ∷ xs) ys = scene_parts g (scene_after g sc x) xs ys

-- the numbers that processes have read show each scene of a history

shown_from : (g : Givens) (sc : Scene) (hs : List Happening) (ms : List Moment) → AreOfWorkers g hs → ShowsScene g sc (shared_of g hs) → IsHistoryFrom g sc ms
    → (all : List Happening) × AreOfWorkers g all × ShowsScene g (scene_after_all g sc ms) (shared_of g all)
shown_from g sc hs [] w shows h = (hs, w, shows)
shown_from g sc hs (m ∷ ms) w shows h = shown_from g (scene_after g sc m) (hs ++ happenings_at sc m) ms
    (workers-append g hs (happenings_at sc m) w (moment_workers g sc m h.0))
    (subst (λ y. ShowsScene g (scene_after g sc m) y) (sym (shared-append g (first_shared g) hs (happenings_at sc m))) (moment_shows g sc (shared_of g hs) m shows h.0))
    h.1

pub shown_all : (g : Givens) (ms : List Moment) → IsHistory g ms → (all : List Happening) × AreOfWorkers g all × ShowsScene g (scene_of g ms) (shared_of g all)
shown_all g ms h = shown_from g (first_scene g) [] ms tt (first_scene_shows g) h
