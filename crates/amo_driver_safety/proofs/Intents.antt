-- At most one intent of each job is tried, and then one performance, by the process that has tried
-- it.
use Rattle.std.proofs.Common.{◌≡◌, ⊎_elim, ℕ, ◌≤◌, true, false, refl, sym, ap, ◌∙◌, subst, List, [], ◌∷◌, ◌++◌, append_assoc, append-nil, Option, Some, None}
use Rattle.std.specs.Prelude.{⊤}
use Rattle.std.proofs.lemmas.Bool.{true≢false, cases_eq}
use Rattle.std.proofs.lemmas.Option.{none-some, same_Some}
use Rattle.amo_sets.specs.Lists.{numbered, put}
use Rattle.amo_sets.proofs.Numbers.{numbered-put_other}
use Rattle.amo_params.specs.Givens.{IsWorker}
use Rattle.amo_params.specs.declared.givens.Givens.{Givens}
use Rattle.amo_process.specs.Shared.{Shared, shared_after_all, shared_of, told_to_perform, AreOfWorkers, HasNoStep}
use Rattle.amo_process.specs.declared.model.Happening.{Happening}
use Rattle.amo_process.proofs.Told.{told_once}
use Rattle.amo_process.specs.Stepped.{ProcessView}
use Rattle.amo_driver.specs.declared.model.Deed.{Deed}
use Rattle.amo_driver.specs.declared.model.Deed.TheVariants.{Loaded, Stored, Found, Intended, Cleared, Performed, Noted, Asked, Fell}
use Rattle.amo_driver.specs.declared.model.Try.{Try}
use Rattle.amo_driver.specs.declared.model.Try.TheVariants.{Load, Store, Intend, Clear, Perform}
use Rattle.amo_driver.specs.Stage.{Stage, Going, Intending, Clearing, Performing, Leaving, Gone, Broken}
use Rattle.amo_driver.specs.Course.{try_of, due, stage_replied, stage_after, first_stage}
use Rattle.amo_driver_safety.specs.Scene.{Scene, first_scene, stage_at, scene_after, scene_after_all, scene_of, MayBe, IsHistoryFrom, IsHistory}
use Rattle.amo_driver_safety.specs.Tries.{worker_of, tried_in, NoneBegins}
use Rattle.amo_driver_safety.specs.declared.model.Moment.{Moment}
use Rattle.amo_driver_safety.specs.declared.model.Moment.TheVariants.{Does, Loses, Begins}
use Rattle.amo_driver_safety.proofs.Stages.{intending_at, clearing_at, performing_at}
use Rattle.amo_driver_safety.proofs.Spent.{is_spent, replied_spent, found_spent, intended_spent, cleared_spent, performed_spent, noted_spent, asked_for_spent, after_handing, after_taking, IsTold, here_told, here_intends, here_asks}
use Rattle.amo_driver_safety.proofs.Histories.{happening, happening_done, happenings_at, shared-append, workers-append, no_step_parts, moment_workers, ShowsScene, stage_is, moment_shows, shown_all, history_parts, scene_parts}

-- it stays spent until the next access

loaded_spent : (p : ℕ) (s : Stage) (w v : ℕ) → HasNoStep p (happening p s (Load w)) → is_spent s ≡ true → is_spent (stage_after s (Loaded w v)) ≡ true
loaded_spent p (Going s a way) w v none h = absurd (none.0 refl)
loaded_spent p s w v none h = h

stored_spent : (p : ℕ) (s : Stage) (w v : ℕ) → HasNoStep p (happening p s (Store w v)) → is_spent s ≡ true → is_spent (stage_after s (Stored w v)) ≡ true
stored_spent p (Going s a way) w v none h = absurd (none.0 refl)
stored_spent p (Leaving a) w v none h = refl
stored_spent p s w v none h = h

still_spent : (p : ℕ) (s : Stage) (d : Deed) → HasNoStep p (happening_done p s d) → is_spent s ≡ true → is_spent (stage_after s d) ≡ true
still_spent p s (Loaded w v) none h = loaded_spent p s w v none h
still_spent p s (Stored w v) none h = stored_spent p s w v none h
still_spent p s (Found j) none h = found_spent s j h
still_spent p s (Intended n j) none h = intended_spent s n j h
still_spent p s (Cleared n j clear) none h = cleared_spent s n j clear h
still_spent p s (Performed n j reply) none h = performed_spent s n j reply h
still_spent p s (Noted n c) none h = noted_spent s n c h
still_spent p s (Asked n line reply) none h = asked_for_spent s n line reply h
still_spent p s (Fell t) none h = refl

-- The process that stands here tries no intent before its next access, and neither asks for a
-- clearance nor tries a performance but by this one, if there is one.
abbrev pub IsOver : Option ℕ → Stage → Type 0
IsOver o (Intending n a j) = ⊥
IsOver o (Clearing n a j) = o ≡ Some n
IsOver o (Performing n a j) = o ≡ Some n
IsOver o s = ⊤

pub spent_over : (o : Option ℕ) (s : Stage) → is_spent s ≡ true → IsOver o s
spent_over o (Intending n a j) h = absurd (true≢false (sym h))
spent_over o (Clearing n a j) h = absurd (true≢false (sym h))
spent_over o (Performing n a j) h = absurd (true≢false (sym h))
spent_over o s h = tt

clearing_over : (o : Option ℕ) (n : ℕ) (a : ProcessView) (j : ℕ) → o ≡ Some n → (d : Deed) → IsOver o (stage_after (Clearing n a j) d)
clearing_over o n a j e (Cleared m i true) = e
clearing_over o n a j e (Cleared m i false) = tt
clearing_over o n a j e (Fell t) = tt
clearing_over o n a j e (Loaded w v) = e
clearing_over o n a j e (Stored w v) = e
clearing_over o n a j e (Found i) = e
clearing_over o n a j e (Intended m i) = e
clearing_over o n a j e (Performed m i reply) = e
clearing_over o n a j e (Noted m c) = e
clearing_over o n a j e (Asked m line reply) = e

performing_over : (o : Option ℕ) (n : ℕ) (a : ProcessView) (j : ℕ) → o ≡ Some n → (d : Deed) → IsOver o (stage_after (Performing n a j) d)
performing_over o n a j e (Performed m i reply) = spent_over o (stage_replied n a reply) (replied_spent n a reply)
performing_over o n a j e (Fell t) = tt
performing_over o n a j e (Loaded w v) = e
performing_over o n a j e (Stored w v) = e
performing_over o n a j e (Found i) = e
performing_over o n a j e (Intended m i) = e
performing_over o n a j e (Cleared m i clear) = e
performing_over o n a j e (Noted m c) = e
performing_over o n a j e (Asked m line reply) = e

still_over : (o : Option ℕ) (p : ℕ) (s : Stage) (d : Deed) → HasNoStep p (happening_done p s d) → IsOver o s → IsOver o (stage_after s d)
still_over o p (Intending n a j) d none h = absurd h
still_over o p (Clearing n a j) d none h = clearing_over o n a j h d
still_over o p (Performing n a j) d none h = performing_over o n a j h d
still_over o p s d none h = spent_over o (stage_after s d) (still_spent p s d none refl)

-- the deed of a moment, if it is one
abbrev deed_in : Moment → Deed
deed_in (Does p d) = d
deed_in m = Found 0

-- once an intent was tried
intended_over : (n : ℕ) (a : ProcessView) (j : ℕ) (d : Deed) → try_of d ≡ Intend n j → IsOver (Some n) (stage_after (Intending n a j) d)
intended_over n a j (Intended m i) is = refl
intended_over n a j (Fell t) is = tt
intended_over n a j d is = cc

-- what is tried in a moment is due
pub tried_due : (g : Givens) (sc : Scene) (m : Moment) (t : Try) → MayBe g sc m → tried_in m ≡ Some t → IsWorker g (worker_of m) × (due (stage_at sc (worker_of m)) ≡ Some t)
tried_due g sc (Does p d) t may is = (may.0, may.1 ∙ is)
tried_due g sc (Loses p u) t may is = (may.0, may.1 ∙ is)
tried_due g sc (Begins p n) t may is = absurd (none-some t is)

none_begins_more : (p : ℕ) (ms : List Moment) (m : Moment) → NoneBegins p ms → NoneBegins p (m ∷ []) → NoneBegins p (ms ++ m ∷ [])
none_begins_more p [] m h k = k
none_begins_more p (Does q d ∷ ms) m h k = none_begins_more p ms m h k
none_begins_more p (Loses q t ∷ ms) m h k = none_begins_more p ms m h k
none_begins_more p (Begins q n ∷ ms) m h k = (h.0, none_begins_more p ms m h.1 k)

no_step_no_begin : (p : ℕ) (sc : Scene) (m : Moment) → HasNoStep p (happenings_at sc m) → NoneBegins p (m ∷ [])
no_step_no_begin p sc (Does q d) none = tt
no_step_no_begin p sc (Loses q t) none = tt
no_step_no_begin p sc (Begins q n) none = (none.0, tt)

-- a moment with no access of p, and no new process of it
module _ (g : Givens) (sc : Scene) (sh : Shared) (shows : ShowsScene g sc sh) (p : ℕ) (o : IsWorker g p) (by : Option ℕ) where
  put_over : (q : ℕ) (s : Stage) → (q ≡ p → IsOver by s) → IsOver by (stage_at sc p) → IsOver by (numbered Gone (put sc.stages q s) p)
  put_over q s mine over = ⊎_elim
      (λ (e : q ≡ p). subst (λ x. IsOver by (numbered Gone (put sc.stages x s) p)) (sym e) (subst (IsOver by) (sym (stage_is g sc sh shows p o s)) (mine e)))
      (λ n. subst (IsOver by) (sym (numbered-put_other Gone s sc.stages q p (λ e. n (sym e)))) over)
      (cases_eq q p)

  moment_over : (m : Moment) → HasNoStep p (happenings_at sc m) → IsOver by (stage_at sc p) → IsOver by (stage_at (scene_after g sc m) p)
  moment_over (Does q d) none over = put_over q (stage_after (stage_at sc q) d)
      (λ e. subst (λ x. IsOver by (stage_after (stage_at sc x) d)) (sym e) (still_over by p (stage_at sc p) d (subst (λ x. HasNoStep p (happening_done x (stage_at sc x) d)) e none) over)) over
  moment_over (Loses q t) none over = put_over q Broken (λ e. tt) over
  moment_over (Begins q n) none over = put_over q (first_stage g q n) (λ e. tt) over

-- once p got a job to perform, and p has tried its intent, or has handed it over
module _ (g : Givens) (hs : List Happening) (w : AreOfWorkers g hs) (p : ℕ) (o : IsWorker g p) (j : ℕ) (low : 1 ≤ j) (told : told_to_perform g (shared_of g hs) p ≡ j) (by : Option ℕ) where
  -- the scene after these moments
  pub record Reached (sc : Scene) (mid : List Moment) : Type 0 where
    pub more : List Happening
    pub workers : AreOfWorkers g more
    pub shows : ShowsScene g sc (shared_after_all g (shared_of g hs) more)
    pub over : HasNoStep p more → IsOver by (stage_at sc p)
    pub alone : HasNoStep p more → NoneBegins p mid

  pub reach_next : (sc : Scene) (mid : List Moment) (m : Moment) → Reached sc mid → MayBe g sc m → Reached (scene_after g sc m) (mid ++ m ∷ [])
  reach_next sc mid m r may = record {
    more = r.more ++ happenings_at sc m;
    workers = workers-append g r.more (happenings_at sc m) r.workers (moment_workers g sc m may);
    shows = subst (λ y. ShowsScene g (scene_after g sc m) y) (sym (shared-append g (shared_of g hs) r.more (happenings_at sc m)))
        (moment_shows g sc (shared_after_all g (shared_of g hs) r.more) m r.shows may);
    over = λ none.
        let parts = no_step_parts p r.more (happenings_at sc m) none in
        moment_over g sc (shared_after_all g (shared_of g hs) r.more) r.shows p o by m parts.1 (r.over parts.0);
    alone = λ none.
        let parts = no_step_parts p r.more (happenings_at sc m) none in
        none_begins_more p mid m (r.alone parts.0) (no_step_no_begin p sc m parts.1);
  }

  pub reach : (sc : Scene) (mid ms : List Moment) → Reached sc mid → IsHistoryFrom g sc ms → Reached (scene_after_all g sc ms) (mid ++ ms)
  reach sc mid [] r h = subst (Reached sc) (sym (append-nil mid)) r
  reach sc mid (m ∷ ms) r h =
      subst (Reached (scene_after_all g (scene_after g sc m) ms)) (append_assoc mid (m ∷ []) ms)
      (reach (scene_after g sc m) (mid ++ m ∷ []) ms (reach_next sc mid m r h.0) h.1)

  module _ (sc : Scene) (mid : List Moment) (r : Reached sc mid) (q n : ℕ) (v : IsWorker g q) where
    -- a job that q gets is one that p gets, before its next access
    told_here : IsTold g q (numbered [] (shared_after_all g (shared_of g hs) r.more).lists q) (stage_at sc q) j → (p ≡ q) × HasNoStep p r.more
    told_here t = told_once g hs r.more p q j w r.workers o v low told t.job

    pub no_intent_again : due (stage_at sc q) ≡ Some (Intend n j) → ⊥
    no_intent_again e =
        let at = intending_at (stage_at sc q) n j e in
        let once = told_here (here_intends g q (numbered [] (shared_after_all g (shared_of g hs) r.more).lists q) (stage_at sc q) n j (r.shows.shown q v) e) in
        subst (IsOver by) at.1 (subst (λ x. IsOver by (stage_at sc x)) once.0 (r.over once.1))

    pub asked_by_it : due (stage_at sc q) ≡ Some (Clear n j) → (p ≡ q) × (by ≡ Some n) × NoneBegins p mid
    asked_by_it e =
        let at = clearing_at (stage_at sc q) n j e in
        let once = told_here (here_asks g q (numbered [] (shared_after_all g (shared_of g hs) r.more).lists q) (stage_at sc q) n j (r.shows.shown q v) e) in
        (once.0, subst (IsOver by) at.1 (subst (λ x. IsOver by (stage_at sc x)) once.0 (r.over once.1)), r.alone once.1)

    pub performed_by_it : due (stage_at sc q) ≡ Some (Perform n j) → (p ≡ q) × (by ≡ Some n) × NoneBegins p mid
    performed_by_it e =
        let at = performing_at (stage_at sc q) n j e in
        let once = told_here (here_told g q (numbered [] (shared_after_all g (shared_of g hs) r.more).lists q) (stage_at sc q) n j (r.shows.shown q v) e) in
        (once.0, subst (IsOver by) at.1 (subst (λ x. IsOver by (stage_at sc x)) once.0 (r.over once.1)), r.alone once.1)

-- the scene after a moment that tries an intent of j, or its performance
pub record Begun (g : Givens) (hs : List Happening) (w : AreOfWorkers g hs) (sc : Scene) (m : Moment) (j : ℕ) (by : Option ℕ) : Type 0 where
  pub worker : IsWorker g (worker_of m)
  pub low : 1 ≤ j
  pub told : told_to_perform g (shared_of g hs) (worker_of m) ≡ j
  pub reached : Reached g hs w (worker_of m) worker j low told by (scene_after g sc m) []

module _ (g : Givens) (hs : List Happening) (w : AreOfWorkers g hs) (sc : Scene) (shows : ShowsScene g sc (shared_of g hs)) where
  module _ (m : Moment) (t : Try) (by : Option ℕ)
      (over : (p : ℕ) (d : Deed) → m ≡ Does p d → due (stage_at sc p) ≡ Some t → try_of d ≡ t → IsOver by (stage_after (stage_at sc p) d)) where
    begun_over : (x : Moment) → m ≡ x → MayBe g sc x → tried_in x ≡ Some t → IsOver by (stage_at (scene_after g sc x) (worker_of x))
    begun_over (Does p d) same may is =
        let tried = same_Some (try_of d) t is in
        subst (IsOver by) (sym (stage_is g sc (shared_of g hs) shows p may.0 (stage_after (stage_at sc p) d))) (over p d same (may.1 ∙ is) tried)
    begun_over (Loses p u) same may is = subst (IsOver by) (sym (stage_is g sc (shared_of g hs) shows p may.0 Broken)) tt
    begun_over (Begins p k) same may is = absurd (none-some t is)

    begun : (j : ℕ) → MayBe g sc m → tried_in m ≡ Some t
        → ((p : ℕ) → IsWorker g p → due (stage_at sc p) ≡ Some t → IsTold g p (numbered [] (shared_of g hs).lists p) (stage_at sc p) j) → Begun g hs w sc m j by
    begun j may is tells =
        let it = tried_due g sc m t may is in
        let told = tells (worker_of m) it.0 it.1 in
        record {
          worker = it.0;
          low = told.low;
          told = told.job;
          reached = record {
            more = happenings_at sc m;
            workers = moment_workers g sc m may;
            shows = moment_shows g sc (shared_of g hs) m shows may;
            over = λ none. begun_over m refl may is;
            alone = λ none. tt;
          };
        }

  pub intent_begun : (m : Moment) (n j : ℕ) → MayBe g sc m → tried_in m ≡ Some (Intend n j) → Begun g hs w sc m j (Some n)
  intent_begun m n j may is = begun m (Intend n j) (Some n)
      (λ p d it e same. let at = intending_at (stage_at sc p) n j e in subst (λ (s : Stage). IsOver (Some n) (stage_after s d)) (sym at.1) (intended_over n at.0 j d same))
      j may is (λ p o e. here_intends g p (numbered [] (shared_of g hs).lists p) (stage_at sc p) n j (shows.shown p o) e)

  pub handing_begun : (m : Moment) (n j : ℕ) → MayBe g sc m → tried_in m ≡ Some (Perform n j) → Begun g hs w sc m j None
  handing_begun m n j may is = begun m (Perform n j) None
      (λ p d it e same. spent_over None (stage_after (stage_at sc p) d) (after_handing (stage_at sc p) d n j e same))
      j may is (λ p o e. here_told g p (numbered [] (shared_of g hs).lists p) (stage_at sc p) n j (shows.shown p o) e)

  pub taking_begun : (m : Moment) (p n j : ℕ) → m ≡ Does p (Cleared n j false) → MayBe g sc m → Begun g hs w sc m j None
  taking_begun m p n j is may = begun m (Clear n j) None
      (λ q d it e same. subst (λ x. IsOver None (stage_after (stage_at sc q) x)) (ap deed_in (sym is ∙ it)) (spent_over None (stage_after (stage_at sc q) (Cleared n j false)) (after_taking (stage_at sc q) n j e)))
      j may (ap tried_in is) (λ q o e. here_asks g q (numbered [] (shared_of g hs).lists q) (stage_at sc q) n j (shows.shown q o) e)

-- what a later moment of a history may do of a job whose intent was tried, or that was handed over,
-- or found taken

module _ (g : Givens) (before mid : List Moment) (x y : Moment) (h : IsHistory g (before ++ x ∷ mid ++ y ∷ [])) where
  abbrev then_scene : Scene
  then_scene = scene_after_all g (scene_after g (scene_of g before) x) mid

  record Later (j : ℕ) (by : Option ℕ) : Type 0 where
    pub hs : List Happening
    pub workers : AreOfWorkers g hs
    pub begun : Begun g hs workers (scene_of g before) x j by
    pub reached : Reached g hs workers (worker_of x) begun.worker j begun.low begun.told by then_scene mid
    pub may : MayBe g then_scene y

  later : (j : ℕ) (by : Option ℕ) → ((hs : List Happening) (w : AreOfWorkers g hs) → ShowsScene g (scene_of g before) (shared_of g hs) → MayBe g (scene_of g before) x → Begun g hs w (scene_of g before) x j by)
      → Later j by
  later j by begins =
      let whole = history_parts g (first_scene g) (before ++ x ∷ mid) (y ∷ []) h in
      let parts = history_parts g (first_scene g) before (x ∷ mid) whole.0 in
      let (hs, w, shows) = shown_all g before parts.0 in
      let b = begins hs w shows parts.1.0 in
      record {
        hs = hs;
        workers = w;
        begun = b;
        reached = reach g hs w (worker_of x) b.worker j b.low b.told by (scene_after g (scene_of g before) x) [] mid b.reached parts.1.1;
        may = subst (λ (sc : Scene). MayBe g sc y) (scene_parts g (first_scene g) before (x ∷ mid)) whole.1.0;
      }

  no_intent_then : (m j : ℕ) (by : Option ℕ) → Later j by → tried_in y ≡ Some (Intend m j) → ⊥
  no_intent_then m j by l is =
      let it = tried_due g then_scene y (Intend m j) l.may is in
      no_intent_again g l.hs l.workers (worker_of x) l.begun.worker j l.begun.low l.begun.told by then_scene mid l.reached (worker_of y) m it.0 it.1

  pub one_intent : (n m j : ℕ) → tried_in x ≡ Some (Intend n j) → tried_in y ≡ Some (Intend m j) → ⊥
  one_intent n m j first second = no_intent_then m j (Some n) (later j (Some n) (λ hs w shows may. intent_begun g hs w (scene_of g before) shows x n j may first)) second

  pub no_intent_after : (n m j : ℕ) → tried_in x ≡ Some (Perform n j) → tried_in y ≡ Some (Intend m j) → ⊥
  no_intent_after n m j first second = no_intent_then m j None (later j None (λ hs w shows may. handing_begun g hs w (scene_of g before) shows x n j may first)) second

  pub by_its_intent : (n m j : ℕ) → tried_in x ≡ Some (Intend n j) → tried_in y ≡ Some (Perform m j) → (worker_of x ≡ worker_of y) × (n ≡ m) × NoneBegins (worker_of x) mid
  by_its_intent n m j first second =
      let l = later j (Some n) (λ hs w shows may. intent_begun g hs w (scene_of g before) shows x n j may first) in
      let it = tried_due g then_scene y (Perform m j) l.may second in
      let found = performed_by_it g l.hs l.workers (worker_of x) l.begun.worker j l.begun.low l.begun.told (Some n) then_scene mid l.reached (worker_of y) m it.0 it.1 in
      (found.0, same_Some n m found.1, found.2)

  pub none_performed_then : (p n m j : ℕ) → x ≡ Does p (Cleared n j false) → tried_in y ≡ Some (Perform m j) → ⊥
  none_performed_then p n m j first second =
      let l = later j None (λ hs w shows may. taking_begun g hs w (scene_of g before) shows x p n j first may) in
      let it = tried_due g then_scene y (Perform m j) l.may second in
      none-some m (performed_by_it g l.hs l.workers (worker_of x) l.begun.worker j l.begun.low l.begun.told None then_scene mid l.reached (worker_of y) m it.0 it.1).1

  pub none_taken_then : (p n m j : ℕ) → tried_in x ≡ Some (Perform n j) → y ≡ Does p (Cleared m j false) → ⊥
  none_taken_then p n m j first second =
      let l = later j None (λ hs w shows may. handing_begun g hs w (scene_of g before) shows x n j may first) in
      let it = tried_due g then_scene y (Clear m j) l.may (ap tried_in second) in
      none-some m (asked_by_it g l.hs l.workers (worker_of x) l.begun.worker j l.begun.low l.begun.told None then_scene mid l.reached (worker_of y) m it.0 it.1).1
