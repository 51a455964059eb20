-- A process gives up an attempt that was never handed over. The attempt is opened, and the process
-- attempts no line.
use Rattle.std.proofs.Common.{◌≡◌, inl, ◌≤◌, ℕ, List, [], ◌∷◌, Some, refl, sym, ap, ◌∙◌, subst}
use Rattle.amo_safety_by_journals.specs.Model.{Attempt as Name, Handing, IsOneOf, Away, Free, Clearing as ModelClearing, Site, site_after, Event as ModelEvent, Dies, Begins, Opens, line_of}
use Rattle.amo_safety_by_journals.specs.Runs.{Clearance, IsRunFrom, site_from, IsOver as IsOverThere}
use Rattle.amo_params.specs.declared.limits.TheConstants.{MAX_WORKERS}
use Rattle.amo_host.specs.declared.model.LogFile.TheVariants.{Journal}
use Rattle.amo_host.specs.Calls.{Call}
use Rattle.amo_program_safety.specs.World.{Process, World, journal_by, guard_by, process_by, called}
use Rattle.amo_program_safety.specs.Runs.{IsUntouched}
use Rattle.amo_program_safety.proofs.Standing.{IsOpened, Stand, Goes, Holds}
use Rattle.amo_program_safety.proofs.Moves.{Reaches}
use Rattle.amo_program_safety.proofs.Points.{at_it}
use Rattle.amo_program_safety.proofs.Acting.{Turns, turns_then, turns_dies, turns_begins, turns_opens, turns}

pub record GivesUp (v : Site) (q s : ℕ) : Type 0 where
  pub events : List ModelEvent
  pub run : IsRunFrom Clearance MAX_WORKERS v events
  pub turned : Turns v (site_from v events) q
  pub kept : (site_from v events).kept ≡ v.kept
  pub free : (site_from v events).stage q ≡ Free
  pub opened : IsOpened (site_from v events) q s

pub gives_up : (w : World) (v : Site) (q s line : ℕ) → Goes w v → q ≤ MAX_WORKERS → line_of (v.kept q) s ≡ Some line → IsUntouched w q s → GivesUp v q s
gives_up w v q s line goes few kept untouched = record {
  events = Dies q ∷ Opens name ∷ Begins q ∷ [];
  run = (tt, (over, ((at_it v.stage q Away, few), tt)));
  turned = turns_then v dead begun q (turns_dies v q) (turns_then dead unlocked begun q (turns_opens dead q name) (turns_begins unlocked q));
  kept = refl;
  free = at_it unlocked.stage q Free;
  opened = inl refl;
}
  where
    name : Name
    name = record { worker = q; serial = s }

    dead : Site
    dead = site_after v (Dies q)

    unlocked : Site
    unlocked = site_after dead (Opens name)

    begun : Site
    begun = site_after unlocked (Begins q)

    over : IsOverThere dead name
    over = record {
      kept = (line, kept);
      not_held = λ l seen is. let no : Away ≡ ModelClearing s l seen = sym (at_it v.stage q Away) ∙ is in absurd (cc no);
      not_alive = λ h one is. untouched.not_alive h (subst (λ (hs : List Handing). IsOneOf hs h) goes.alive one) is;
      not_performed = λ h one is. untouched.not_performed h (subst (λ (hs : List Handing). IsOneOf hs h) goes.performed one) is;
    }

-- An attempt that a process holds was never handed over, and so it is untouched.
pub held_untouched : (w : World) (v : Site) (pid : ℕ) (p : Process) (jobs : List ℕ) (s j line : ℕ) (seen : List ℕ) → Goes w v → Holds w v pid p jobs s j line seen → IsUntouched w p.worker s
held_untouched w v pid p jobs s j line seen goes holds = record {
  not_alive = λ h one is. holds.first h (goes.alive_handed h one) is;
  not_performed = λ h one is. holds.first h (goes.performed_handed h one) is;
}

pub gives_up_held : (w : World) (v : Site) (pid : ℕ) (p : Process) (jobs : List ℕ) (s j line : ℕ) (seen : List ℕ) → Goes w v → w.process pid ≡ Some p → Holds w v pid p jobs s j line seen → GivesUp v p.worker s
gives_up_held w v pid p jobs s j line seen goes lives holds =
    gives_up w v p.worker s line goes (goes.stand pid p lives).high holds.kept (held_untouched w v pid p jobs s j line seen goes holds)

-- The process gives its attempt up by a call that changes neither the journal nor a lock.
pub given_up : (w : World) (v : Site) (goes : Goes w v) (pid : ℕ) (p : Process) (lives : w.process pid ≡ Some p) (s : ℕ) (g : GivesUp v p.worker s) (c : Call)
    → w.guard p.worker ≡ Some pid → guard_by w.guard pid c ≡ w.guard → journal_by (w.logs (Journal p.worker)) p.owed c ≡ w.logs (Journal p.worker)
    → Stand (called w pid (Some p) c) (site_from v g.events) pid (process_by p c) → Reaches v (called w pid (Some p) c)
given_up w v goes pid p lives s g c own guard log stand = record {
  events = g.events;
  run = g.run;
  goes = turns w v goes pid p lives c (site_from v g.events) own guard log g.turned (ap (λ f. f p.worker) g.kept) stand;
}
