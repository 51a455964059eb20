-- A step of one process, and its effect on the other processes.
use Rattle.std.proofs.Common.{◌≡◌, ◌⊎◌, ⊎_elim, ◌≤◌, ℕ, zero, List, [], Some, None, sym, ap, ◌∙◌, subst}
use Rattle.std.proofs.lemmas.Bool.{cases_eq}
use native.Mathlib.Omega.{arith}
use Rattle.amo_safety_by_journals.specs.Model.{Handing, IsOneOf, Away, Site, with_at, line_of}
use Rattle.amo_host.specs.declared.model.LogFile.TheVariants.{Answers, Journal}
use Rattle.amo_run_log.specs.declared.entry.Entry.TheVariants.{Answer as Answered}
use Rattle.amo_run_log.specs.declared.entry.Outcome.{Outcome}
use Rattle.amo_run_log.specs.declared.entry.Outcome.TheVariants.{Unbegun as NotBegun}
use Rattle.amo_run_log.specs.Entries.{append_in}
use Rattle.amo_program_safety.specs.Texts.{entries_of, lines_in}
use Rattle.amo_program_safety.specs.World.{Log, Process, World}
use Rattle.amo_program_safety.proofs.Standing.{IsOpened, Settled, Stand, Goes, all_of}
use Rattle.amo_program_safety.proofs.Moves.{Same}
use Rattle.amo_program_safety.proofs.Frame.{frame_stand}
use Rattle.amo_program_safety.proofs.Points.{at_number, at_it, at_other}

-- The journal of the worker q and the stage of its process in the model have not changed.
pub record Untouched (w : World) (v : Site) (w' : World) (v' : Site) (q : ℕ) : Type 0 where
  pub stage : v'.stage q ≡ v.stage q
  pub kept : v'.kept q ≡ v.kept q
  pub log : w'.logs (Journal q) ≡ w.logs (Journal q)

-- A step of the process pid has changed only its own part of the world and of the site. The part of
-- each other worker is untouched.
pub record Effect (w : World) (v : Site) (w' : World) (v' : Site) (pid : ℕ) (p p' : Process) : Type 0 where
  pub process_is : w'.process ≡ with_at w.process pid (Some p')
  pub worker_is : p'.worker ≡ p.worker
  pub handed : w'.handed ≡ w.handed
  pub w_alive : w'.alive ≡ w.alive
  pub w_performed : w'.performed ≡ w.performed
  pub v_alive : v'.alive ≡ v.alive
  pub v_performed : v'.performed ≡ v.performed
  pub opened : (q s : ℕ) → IsOpened v q s → IsOpened v' q s
  pub settled : (q s : ℕ) → Settled v q s → Settled v' q s
  pub guard_kept : (q r : ℕ) → (r ≡ pid → ⊥) → w.guard q ≡ Some r → w'.guard q ≡ Some r
  pub guard_lost : (q r : ℕ) → (r ≡ pid → ⊥) → w'.guard q ≡ Some r → w.guard q ≡ Some r
  pub guard_mine : (q : ℕ) → w'.guard q ≡ Some pid → q ≡ p.worker
  pub answers : w'.logs Answers ≡ w.logs Answers
  pub far : (q : ℕ) → (q ≡ p.worker → ⊥) → Untouched w v w' v' q
  pub near : Untouched w v w' v' p.worker ⊎ (w.guard p.worker ≡ Some pid)
  pub kept : v'.kept p.worker ≡ lines_in (w'.logs (Journal p.worker)).kept
  pub more : (s l : ℕ) → line_of (v.kept p.worker) s ≡ Some l → line_of (v'.kept p.worker) s ≡ Some l
  pub unbegun : (s : ℕ) (text : List ℕ) → IsOneOf (all_of (w'.logs (Journal p.worker))) text → IsOneOf (entries_of (append_in text)) (Answered s NotBegun) → IsOpened v' p.worker s
  pub answered : (s : ℕ) (c : Outcome) (text : List ℕ) → IsOneOf (all_of (w'.logs (Journal p.worker))) text → IsOneOf (entries_of (append_in text)) (Answered s c) → Settled v' p.worker s
  pub away : (q : ℕ) → w'.guard q ≡ None → v'.stage q ≡ Away
  pub stand : Stand w' v' pid p'

module _ (w : World) (v : Site) (w' : World) (v' : Site) (pid : ℕ) (p p' : Process)
    (goes : Goes w v) (lives : w.process pid ≡ Some p) (eff : Effect w v w' v' pid p p') where
  is_not_mine : (q r : ℕ) → (r ≡ pid → ⊥) → w.guard q ≡ Some r → Untouched w v w' v' q
  is_not_mine q r other holds = ⊎_elim
      (λ (e : q ≡ p.worker). ⊎_elim
      (λ near. subst (λ k. Untouched w v w' v' k) (sym e) near)
      (λ (mine : w.guard p.worker ≡ Some pid). absurd (other (some_is (sym holds ∙ (ap w.guard e ∙ mine)))))
      eff.near)
      (λ far. eff.far q far)
      (cases_eq q p.worker)
    where
      some_is : {a b : ℕ} → Some a ≡ Some b → a ≡ b
      some_is e = cc

  same : (r : ℕ) (o : Process) → (r ≡ pid → ⊥) → Same w v w' v' r o
  same r o other = record {
    lost = λ q holds. eff.guard_lost q r other holds;
    guard = λ holds. eff.guard_kept o.worker r other holds;
    stage = λ holds. (is_not_mine o.worker r other holds).stage;
    kept = λ holds. (is_not_mine o.worker r other holds).kept;
    log = λ holds. (is_not_mine o.worker r other holds).log;
    first = λ holds s first h one named. first h (subst (λ (hs : List Handing). IsOneOf hs h) eff.handed one) named;
    handed = λ h one. subst (λ (hs : List Handing). IsOneOf hs h) (sym eff.handed) one;
    opened = eff.opened;
    settled = eff.settled;
  }

  stand_of : (r : ℕ) (o : Process) → w'.process r ≡ Some o → Stand w' v' r o
  stand_of r o is = at_number (λ x. x ≡ Some o → Stand w' v' r o) w.process pid (Some p') r
      (λ e own. subst (λ k. Stand w' v' k o) (sym e) (subst (λ x. Stand w' v' pid x) (some_is own) eff.stand))
      (λ other old. frame_stand w v w' v' r o (same r o other) (goes.stand r o old))
      (ap (λ f. f r) (sym eff.process_is) ∙ is)
    where
      some_is : {a b : Process} → Some a ≡ Some b → a ≡ b
      some_is e = cc

  at_each : (P : ℕ → Type 0) (q : ℕ) → P p.worker → ((q ≡ p.worker → ⊥) → P q) → P q
  at_each P q here there = ⊎_elim (λ (e : q ≡ p.worker). subst P (sym e) here) there (cases_eq q p.worker)

  kept_at : (q : ℕ) → v'.kept q ≡ lines_in (w'.logs (Journal q)).kept
  kept_at q = at_each (λ k. v'.kept k ≡ lines_in (w'.logs (Journal k)).kept) q eff.kept
      (λ far. (eff.far q far).kept ∙ (goes.kept q ∙ ap (λ (l : Log). lines_in l.kept) (sym (eff.far q far).log)))

  not_zero : zero ≡ p.worker → ⊥
  not_zero e = low_is (goes.stand pid p lives).low e
    where
      low_is : 1 ≤ p.worker → zero ≡ p.worker → ⊥
      low_is le is = omega (arith, le, is)

  nobody_at : lines_in (all_of (w'.logs (Journal 0))) ≡ []
  nobody_at = ap (λ (l : Log). lines_in (all_of l)) (eff.far 0 not_zero).log ∙ goes.nobody

  unbegun_at : (q s : ℕ) (text : List ℕ) → IsOneOf (all_of (w'.logs (Journal q))) text → IsOneOf (entries_of (append_in text)) (Answered s NotBegun) → IsOpened v' q s
  unbegun_at q s text = at_each (λ k. IsOneOf (all_of (w'.logs (Journal k))) text → IsOneOf (entries_of (append_in text)) (Answered s NotBegun) → IsOpened v' k s) q
      (eff.unbegun s text)
      (λ far one says. eff.opened q s (goes.unbegun q s text (subst (λ (l : Log). IsOneOf (all_of l) text) (eff.far q far).log one) says))

  answered_at : (q s : ℕ) (c : Outcome) (text : List ℕ) → IsOneOf (all_of (w'.logs (Journal q))) text → IsOneOf (entries_of (append_in text)) (Answered s c) → Settled v' q s
  answered_at q s c text = at_each (λ k. IsOneOf (all_of (w'.logs (Journal k))) text → IsOneOf (entries_of (append_in text)) (Answered s c) → Settled v' k s) q
      (eff.answered s c text)
      (λ far one says. eff.settled q s (goes.answered q s c text (subst (λ (l : Log). IsOneOf (all_of l) text) (eff.far q far).log one) says))

  handed_at : (h : Handing) → IsOneOf w'.handed h → line_of (v'.kept h.worker) h.serial ≡ Some h.line
  handed_at h one = at_each (λ k. line_of (v.kept k) h.serial ≡ Some h.line → line_of (v'.kept k) h.serial ≡ Some h.line) h.worker
      (eff.more h.serial h.line)
      (λ far is. ap (λ (ls : List ℕ). line_of ls h.serial) (eff.far h.worker far).kept ∙ is)
      (goes.handed h (subst (λ (hs : List Handing). IsOneOf hs h) eff.handed one))

  owner_at : (q r : ℕ) → w'.guard q ≡ Some r → (o : Process) × (w'.process r ≡ Some o) × (o.worker ≡ q)
  owner_at q r holds = ⊎_elim
      (λ (e : r ≡ pid). (p', ap (λ f. f r) eff.process_is ∙ (ap (with_at w.process pid (Some p')) e ∙ at_it w.process pid (Some p')), eff.worker_is ∙ sym (eff.guard_mine q (holds ∙ ap Some e))))
      (λ (other : r ≡ pid → ⊥). let old = goes.owner q r (eff.guard_lost q r other holds) in
      (old.0, ap (λ f. f r) eff.process_is ∙ (at_other w.process pid (Some p') r other ∙ old.1), old.2))
      (cases_eq r pid)

  pub effect_goes : Goes w' v'
  effect_goes = record {
    alive = eff.v_alive ∙ (goes.alive ∙ sym eff.w_alive);
    performed = eff.v_performed ∙ (goes.performed ∙ sym eff.w_performed);
    kept = kept_at;
    nobody = nobody_at;
    unbegun = unbegun_at;
    answered = answered_at;
    undone = λ text one f says not. eff.opened f.worker f.serial (goes.undone text (subst (λ (l : Log). IsOneOf (all_of l) text) eff.answers one) f says not);
    alive_handed = λ h one. subst (λ (hs : List Handing). IsOneOf hs h) (sym eff.handed) (goes.alive_handed h (subst (λ (hs : List Handing). IsOneOf hs h) eff.w_alive one));
    performed_handed = λ h one. subst (λ (hs : List Handing). IsOneOf hs h) (sym eff.handed) (goes.performed_handed h (subst (λ (hs : List Handing). IsOneOf hs h) eff.w_performed one));
    handed = handed_at;
    away = eff.away;
    owner = owner_at;
    stand = stand_of;
  }
