-- The stage of a process in a history is the one that its log leads to.
use Rattle.std.proofs.Common.{◌≡◌, ⊎_elim, ℕ, refl, sym, ap, ◌∙◌, subst, arith, List, [], ◌∷◌, ◌++◌, length, Option, Some, None}
use Rattle.std.specs.Prelude.{if◌then◌else◌, ◌==◌}
use Rattle.std.proofs.lemmas.Bool.{eq-eqb, ne_eqb, cases_eq}
use Rattle.std.proofs.lemmas.Option.{none-some}
use Rattle.amo_sets.specs.Lists.{numbered, put}
use Rattle.amo_sets.proofs.Numbers.{numbered-put_same, numbered-put_other, length-put, length-table}
use Rattle.amo_sets.proofs.Tables.{numbered-table}
use Rattle.amo_params.specs.Givens.{IsWorker}
use Rattle.amo_params.specs.declared.givens.Givens.{Givens}
use Rattle.amo_driver.specs.declared.model.Deed.{Deed}
use Rattle.amo_driver.specs.declared.model.Deed.TheVariants.{Fell}
use Rattle.amo_driver.specs.declared.model.Try.{Try}
use Rattle.amo_driver.specs.Stage.{Stage, Gone, Broken}
use Rattle.amo_driver.specs.Course.{try_of, due, stage_after, stage_after_all, AreDue, first_stage}
use Rattle.amo_driver.specs.Standing.{MayCall, Moves}
use Rattle.amo_driver_safety.specs.Scene.{Scene, first_scene, stage_at, scene_after, scene_after_all, scene_of, IsTrue, MayBe, IsHistoryFrom, IsHistory}
use Rattle.amo_driver_safety.specs.Log.{Stands, Log, with_more, log_after, log_after_all, log_of, StandsBy}
use Rattle.amo_driver_safety.specs.declared.model.Moment.{Moment}
use Rattle.amo_driver_safety.specs.declared.model.Moment.TheVariants.{Does, Loses, Begins}

-- the stage after all these deeds and one more
pub stage_after_more : (s : Stage) (ds : List Deed) (d : Deed) → stage_after_all s (ds ++ d ∷ []) ≡ stage_after (stage_after_all s ds) d
stage_after_more s [] d = refl
stage_after_more s (x ∷ ds) d = stage_after_more (stage_after s x) ds d

-- one that is due after all that were due
pub due_more : (s : Stage) (ds : List Deed) (d : Deed) → AreDue s ds → due (stage_after_all s ds) ≡ Some (try_of d) → AreDue s (ds ++ d ∷ [])
due_more s [] d all is = (is, tt)
due_more s (x ∷ ds) d all is = (all.0, due_more (stage_after s x) ds d all.1 is)

-- the stage after one deed more that was due
pub stands_more : (first : Stage) (ds : List Deed) (d : Deed) → Moves (Stands first ds) (Stands first (ds ++ d ∷ [])) d
stands_more first ds d s stands one =
    (due_more first ds d stands.0 (ap due stands.1 ∙ one), stage_after_more first ds d ∙ ap (λ (z : Stage). stage_after z d) stands.1)

module _ (g : Givens) (p : ℕ) (o : IsWorker g p) where
  -- one more deed that was due
  more_stands : (l : Option Log) (s : Stage) (d : Deed) → StandsBy g p l s → due s ≡ Some (try_of d) → StandsBy g p (with_more l d) (stage_after s d)
  more_stands None s d f e = absurd (none-some (try_of d) (sym (ap due f) ∙ e))
  more_stands (Some l) s d f e = stands_more (first_stage g p l.serial) l.deeds d s f e

  -- if the stage of q changes
  put_stands : (sc : Scene) (l m : Option Log) (q : ℕ) (s : Stage) → length sc.stages ≡ g.workers → StandsBy g p l (stage_at sc p) → (q ≡ p → StandsBy g p m s)
      → StandsBy g p (if q == p then m else l) (numbered Gone (put sc.stages q s) p)
  put_stands sc l m q s size f mine = ⊎_elim
      (λ (e : q ≡ p).
      subst (λ b. StandsBy g p (if b then m else l) (numbered Gone (put sc.stages q s) p)) (sym (eq-eqb q p e))
      (subst (λ x. StandsBy g p m (numbered Gone (put sc.stages x s) p)) (sym e)
      (subst (λ z. StandsBy g p m z) (sym (numbered-put_same Gone s sc.stages p o.low (let h = o.high in omega arith))) (mine e))))
      (λ n.
      subst (λ b. StandsBy g p (if b then m else l) (numbered Gone (put sc.stages q s) p)) (sym (ne_eqb q p n))
      (subst (λ z. StandsBy g p l z) (sym (numbered-put_other Gone s sc.stages q p (λ e. n (sym e)))) f))
      (cases_eq q p)

  moment_stands : (sc : Scene) (l : Option Log) (m : Moment) → length sc.stages ≡ g.workers → StandsBy g p l (stage_at sc p) → MayBe g sc m
      → StandsBy g p (log_after p l m) (stage_at (scene_after g sc m) p)
  moment_stands sc l (Does q d) size f may = put_stands sc l (with_more l d) q (stage_after (stage_at sc q) d) size f
      (λ e. subst (λ x. StandsBy g p (with_more l d) (stage_after (stage_at sc x) d)) (sym e) (more_stands l (stage_at sc p) d f (ap (λ x. due (stage_at sc x)) (sym e) ∙ may.1)))
  moment_stands sc l (Loses q t) size f may = put_stands sc l (with_more l (Fell t)) q Broken size f
      (λ e. more_stands l (stage_at sc p) (Fell t) f (ap (λ x. due (stage_at sc x)) (sym e) ∙ may.1))
  moment_stands sc l (Begins q n) size f may = put_stands sc l (Some (record { serial = n; deeds = [] })) q (first_stage g q n) size f
      (λ e. (tt, ap (λ x. first_stage g x n) (sym e)))

  keeps_size : (sc : Scene) (m : Moment) → length sc.stages ≡ g.workers → length (scene_after g sc m).stages ≡ g.workers
  keeps_size sc (Does q d) e = length-put (stage_after (stage_at sc q) d) sc.stages q ∙ e
  keeps_size sc (Loses q t) e = length-put Broken sc.stages q ∙ e
  keeps_size sc (Begins q n) e = length-put (first_stage g q n) sc.stages q ∙ e

  from_here : (sc : Scene) (l : Option Log) (ms : List Moment) → length sc.stages ≡ g.workers → StandsBy g p l (stage_at sc p) → IsHistoryFrom g sc ms
      → StandsBy g p (log_after_all p l ms) (stage_at (scene_after_all g sc ms) p)
  from_here sc l [] size f h = f
  from_here sc l (m ∷ ms) size f h = from_here (scene_after g sc m) (log_after p l m) ms (keeps_size sc m size) (moment_stands sc l m size f h.0) h.1

  pub stands_by_log : (ms : List Moment) → IsHistory g ms → StandsBy g p (log_of p ms) (stage_at (scene_of g ms) p)
  stands_by_log ms h = from_here (first_scene g) None ms (length-table (λ _. Gone) g.workers) (numbered-table Gone (λ _. Gone) g.workers p o.low o.high) h

  -- what may be tried by the log may come about
  pub call_may_be : (ms : List Moment) (l : Log) (t : Try) → IsHistory g ms → log_of p ms ≡ Some l → MayCall (Stands (first_stage g p l.serial) l.deeds) t
      → MayBe g (scene_of g ms) (Loses p t)
  call_may_be ms l t h is may =
      let stands = subst (λ x. StandsBy g p x (stage_at (scene_of g ms) p)) is (stands_by_log ms h) in
      (o, sym (ap due stands.1) ∙ ap due may.1.1 ∙ may.2)

  last_due : (s : Stage) (ds : List Deed) (d : Deed) → AreDue s (ds ++ d ∷ []) → due (stage_after_all s ds) ≡ Some (try_of d)
  last_due s [] d h = h.0
  last_due s (x ∷ xs) d h = last_due (stage_after s x) xs d h.1

  -- what was done by the log may be done
  pub deed_may_be : (ms : List Moment) (l : Log) (d : Deed) → IsHistory g ms → log_of p ms ≡ Some l → AreDue (first_stage g p l.serial) (l.deeds ++ d ∷ [])
      → IsTrue (scene_of g ms).words d → MayBe g (scene_of g ms) (Does p d)
  deed_may_be ms l d h is may true_there =
      let stands = subst (λ x. StandsBy g p x (stage_at (scene_of g ms) p)) is (stands_by_log ms h) in
      (o, sym (ap due stands.1) ∙ last_due (first_stage g p l.serial) l.deeds d may, true_there)
