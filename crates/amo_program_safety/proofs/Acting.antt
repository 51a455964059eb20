-- Lemmas on the calls of a process: how each call changes the journal of the process, and how the
-- site follows.
use Rattle.std.proofs.Common.{◌≡◌, inl, inr, ⊎_elim, ℕ, List, [], ◌∷◌, ◌++◌, Option, Some, None, refl, sym, ap, ◌∙◌, subst}
use Rattle.std.proofs.lemmas.Bool.{cases_eq}
use Rattle.amo_safety_by_journals.specs.Model.{Attempt as Name, IsOneOf, Away, Free, Site, site_after, Dies, Begins, Lands, Intends, Looks, Opens, line_of}
use Rattle.amo_host.specs.declared.model.LogFile.TheVariants.{Journal}
use Rattle.amo_host.specs.Calls.{Call, Request}
use Rattle.amo_program_safety.specs.Texts.{lines_in}
use Rattle.amo_program_safety.specs.World.{Log, Process, World, journal_by, guard_by, process_by, called, text_by}
use Rattle.amo_program_safety.specs.Runs.{IsItsCall}
use Rattle.amo_program_safety.proofs.Standing.{IsOpened, Settled, Stand, Goes, rest_if, rest_by, all_of}
use Rattle.amo_program_safety.proofs.Moves.{Reaches}
use Rattle.amo_program_safety.proofs.Points.{at_it, at_other, log_it, log_other}
use Rattle.amo_program_safety.proofs.Settling.{settled_after}
use Rattle.amo_program_safety.proofs.Effects.{effect_goes}

-- ---- the site

-- The site v' differs from v only for the worker q, except that more attempts may be opened or
-- settled.
pub record Turns (v v' : Site) (q : ℕ) : Type 0 where
  pub alive : v'.alive ≡ v.alive
  pub performed : v'.performed ≡ v.performed
  pub opened : (r s : ℕ) → IsOpened v r s → IsOpened v' r s
  pub settled : (r s : ℕ) → Settled v r s → Settled v' r s
  pub stage : (r : ℕ) → (r ≡ q → ⊥) → v'.stage r ≡ v.stage r
  pub kept : (r : ℕ) → (r ≡ q → ⊥) → v'.kept r ≡ v.kept r

pub turns_none : (v : Site) (q : ℕ) → Turns v v q
turns_none v q = record { alive = refl; performed = refl; opened = λ r s is. is; settled = λ r s is. is; stage = λ r other. refl; kept = λ r other. refl }

pub turns_then : (v v' v'' : Site) (q : ℕ) → Turns v v' q → Turns v' v'' q → Turns v v'' q
turns_then v v' v'' q a b = record {
  alive = b.alive ∙ a.alive;
  performed = b.performed ∙ a.performed;
  opened = λ r s is. b.opened r s (a.opened r s is);
  settled = λ r s is. b.settled r s (a.settled r s is);
  stage = λ r other. b.stage r other ∙ a.stage r other;
  kept = λ r other. b.kept r other ∙ a.kept r other;
}

pub turns_dies : (v : Site) (q : ℕ) → Turns v (site_after v (Dies q)) q
turns_dies v q = record { alive = refl; performed = refl; opened = λ r s is. is; settled = settled_after v (Dies q); stage = λ r other. at_other v.stage q Away r other; kept = λ r other. refl }

pub turns_begins : (v : Site) (q : ℕ) → Turns v (site_after v (Begins q)) q
turns_begins v q = record { alive = refl; performed = refl; opened = λ r s is. is; settled = settled_after v (Begins q); stage = λ r other. at_other v.stage q Free r other; kept = λ r other. refl }

pub turns_opens : (v : Site) (q : ℕ) (a : Name) → Turns v (site_after v (Opens a)) q
turns_opens v q a = record { alive = refl; performed = refl; opened = λ r s is. inr is; settled = settled_after v (Opens a); stage = λ r other. refl; kept = λ r other. refl }

pub turns_lands : (v : Site) (q line : ℕ) → Turns v (site_after v (Lands q line)) q
turns_lands v q line = record { alive = refl; performed = refl; opened = λ r s is. is; settled = settled_after v (Lands q line); stage = λ r other. refl; kept = λ r other. at_other v.kept q (v.kept q ++ line ∷ []) r other }

pub turns_intends : (v : Site) (q line : ℕ) → Turns v (site_after v (Intends q line)) q
turns_intends v q line = record {
  alive = refl;
  performed = refl;
  opened = λ r s is. is;
  settled = settled_after v (Intends q line);
  stage = λ r other. at_other v.stage q _ r other;
  kept = λ r other. at_other v.kept q (v.kept q ++ line ∷ []) r other;
}

pub turns_looks : (v : Site) (q other : ℕ) → Turns v (site_after v (Looks q other)) q
turns_looks v q other = record { alive = refl; performed = refl; opened = λ r s is. is; settled = settled_after v (Looks q other); stage = λ r far. at_other v.stage q _ r far; kept = λ r far. refl }

-- ---- the calls

module _ (w : World) (v : Site) (goes : Goes w v) (pid : ℕ) (p : Process) (lives : w.process pid ≡ Some p) where
  mine : (q : ℕ) → w.guard q ≡ Some pid → q ≡ p.worker
  mine q holds = let o = goes.owner q pid holds in sym o.2 ∙ ap (λ (x : Process). x.worker) (some_is (sym o.1 ∙ lives))
    where
      some_is : {a b : Process} → Some a ≡ Some b → a ≡ b
      some_is e = cc

  -- After a call that changes neither the journal nor a lock, the world goes with the same site.
  pub plain : (c : Call) → journal_by (w.logs (Journal p.worker)) p.owed c ≡ w.logs (Journal p.worker) → guard_by w.guard pid c ≡ w.guard
      → Stand (called w pid (Some p) c) v pid (process_by p c) → Goes (called w pid (Some p) c) v
  plain c log guard stand = effect_goes w v (called w pid (Some p) c) v pid p (process_by p c) goes lives (record {
    process_is = refl;
    worker_is = refl;
    handed = refl;
    w_alive = refl;
    w_performed = refl;
    v_alive = refl;
    v_performed = refl;
    opened = λ q s is. is;
    settled = λ q s is. is;
    guard_kept = λ q r other holds. ap (λ g. g q) guard ∙ holds;
    guard_lost = λ q r other holds. sym (ap (λ g. g q) guard) ∙ holds;
    guard_mine = λ q holds. mine q (sym (ap (λ g. g q) guard) ∙ holds);
    answers = refl;
    far = λ q far. record { stage = refl; kept = refl; log = log_other w.logs p.worker _ q far };
    near = inl (record { stage = refl; kept = refl; log = log_it w.logs (Journal p.worker) _ ∙ log });
    kept = goes.kept p.worker ∙ ap (λ (l : Log). lines_in l.kept) (sym (log_it w.logs (Journal p.worker) _ ∙ log));
    more = λ s l is. is;
    unbegun = λ s text one says. goes.unbegun p.worker s text (subst (λ (l : Log). IsOneOf (all_of l) text) (log_it w.logs (Journal p.worker) _ ∙ log) one) says;
    answered = λ s c text one says. goes.answered p.worker s c text (subst (λ (l : Log). IsOneOf (all_of l) text) (log_it w.logs (Journal p.worker) _ ∙ log) one) says;
    away = λ q none. goes.away q (sym (ap (λ g. g q) guard) ∙ none);
    stand = stand;
  })

  -- After a call of a process that has the lock on its journal, the world goes with a site that changes only for its worker.
  pub acts : (c : Call) (v' : Site) → w.guard p.worker ≡ Some pid → guard_by w.guard pid c ≡ w.guard → Turns v v' p.worker
      → v'.kept p.worker ≡ lines_in (journal_by (w.logs (Journal p.worker)) p.owed c).kept
      → ((s l : ℕ) → line_of (v.kept p.worker) s ≡ Some l → line_of (v'.kept p.worker) s ≡ Some l)
      → ((text : List ℕ) → IsOneOf (all_of (journal_by (w.logs (Journal p.worker)) p.owed c)) text → IsOneOf (all_of (w.logs (Journal p.worker))) text)
      → Stand (called w pid (Some p) c) v' pid (process_by p c) → Goes (called w pid (Some p) c) v'
  acts c v' own guard turns kept more texts stand = effect_goes w v (called w pid (Some p) c) v' pid p (process_by p c) goes lives (record {
    process_is = refl;
    worker_is = refl;
    handed = refl;
    w_alive = refl;
    w_performed = refl;
    v_alive = turns.alive;
    v_performed = turns.performed;
    opened = turns.opened;
    settled = turns.settled;
    guard_kept = λ q r other holds. ap (λ g. g q) guard ∙ holds;
    guard_lost = λ q r other holds. sym (ap (λ g. g q) guard) ∙ holds;
    guard_mine = λ q holds. mine q (sym (ap (λ g. g q) guard) ∙ holds);
    answers = refl;
    far = λ q far. record { stage = turns.stage q far; kept = turns.kept q far; log = log_other w.logs p.worker _ q far };
    near = inr own;
    kept = kept ∙ ap (λ (l : Log). lines_in l.kept) (sym (log_it w.logs (Journal p.worker) _));
    more = more;
    unbegun = λ s text one says. turns.opened p.worker s (goes.unbegun p.worker s text (texts text (subst (λ (l : Log). IsOneOf (all_of l) text) (log_it w.logs (Journal p.worker) _) one)) says);
    answered = λ s c text one says. turns.settled p.worker s (goes.answered p.worker s c text (texts text (subst (λ (l : Log). IsOneOf (all_of l) text) (log_it w.logs (Journal p.worker) _) one)) says);
    away = λ q none. away_at q (sym (ap (λ g. g q) guard) ∙ none);
    stand = stand;
  })
    where
      away_at : (q : ℕ) → w.guard q ≡ None → v'.stage q ≡ Away
      away_at q none = ⊎_elim
          (λ (e : q ≡ p.worker). absurd (not_both (sym none ∙ (ap w.guard e ∙ own))))
          (λ far. turns.stage q far ∙ goes.away q none)
          (cases_eq q p.worker)
        where
          not_both : {x : ℕ} → None ≡ Some x → ⊥
          not_both e = cc

  -- A process that has the lock on its journal may make a call that leaves the journal as it is. Then the site changes for its worker, and keeps the
  -- intents.
  pub turns : (c : Call) (v' : Site) → w.guard p.worker ≡ Some pid → guard_by w.guard pid c ≡ w.guard
      → journal_by (w.logs (Journal p.worker)) p.owed c ≡ w.logs (Journal p.worker) → Turns v v' p.worker → v'.kept p.worker ≡ v.kept p.worker
      → Stand (called w pid (Some p) c) v' pid (process_by p c) → Goes (called w pid (Some p) c) v'
  turns c v' own guard log turned kept stand = acts c v' own guard turned
      (kept ∙ (goes.kept p.worker ∙ ap (λ (l : Log). lines_in l.kept) (sym log)))
      (λ s l is. ap (λ (ls : List ℕ). line_of ls s) kept ∙ is)
      (λ text one. subst (λ (l : Log). IsOneOf (all_of l) text) log one)
      stand

  -- A process that has the lock on its journal still has it after a call that changes no lock.
  pub still_owns : (c : Call) (o : Process) → o.worker ≡ p.worker → w.guard p.worker ≡ Some pid → guard_by w.guard pid c ≡ w.guard
      → (called w pid (Some p) c).guard o.worker ≡ Some pid
  still_owns c o same own guard = ap (guard_by w.guard pid c) same ∙ (ap (λ g. g p.worker) guard ∙ own)

  -- If a process that has its lock may do nothing any more after a call, the model's process dies by that call.
  pub halts : (c : Call) → w.guard p.worker ≡ Some pid → guard_by w.guard pid c ≡ w.guard
      → journal_by (w.logs (Journal p.worker)) p.owed c ≡ w.logs (Journal p.worker)
      → ((v' : Site) → v'.stage p.worker ≡ Away → Turns v v' p.worker → Stand (called w pid (Some p) c) v' pid (process_by p c))
      → Reaches v (called w pid (Some p) c)
  halts c own guard log stand = record {
    events = Dies p.worker ∷ [];
    run = (tt, tt);
    goes = turns c (site_after v (Dies p.worker)) own guard log (turns_dies v p.worker) refl
        (stand (site_after v (Dies p.worker)) (at_it v.stage p.worker Away) (turns_dies v p.worker));
  }

  -- The model makes no event for a call that changes neither the journal nor a lock.
  pub stays : (c : Call) → journal_by (w.logs (Journal p.worker)) p.owed c ≡ w.logs (Journal p.worker) → guard_by w.guard pid c ≡ w.guard
      → Stand (called w pid (Some p) c) v pid (process_by p c) → Reaches v (called w pid (Some p) c)
  stays c log guard stand = record { events = []; run = tt; goes = plain c log guard stand }

-- ---- the written appends

-- No append of the process is written in a call whose request appends nothing.
pub nothing_written : (p : Process) (r : Request) → IsItsCall p.writes r → text_by p.owed r ≡ None → rest_by p.owed p.writes ≡ []
nothing_written p r its none = by p.writes its
  where
    by : (writes : Option Request) → IsItsCall writes r → rest_by p.owed writes ≡ []
    by None its = refl
    by (Some written) its = ap (λ x. rest_if (text_by p.owed x)) its ∙ ap rest_if none
