-- Intents that come into a journal while no process has the lock on it.
use Rattle.std.proofs.Common.{◌≡◌, ℕ, List, [], ◌∷◌, ◌++◌, refl, sym, ap, ◌∙◌, append_assoc, append-nil}
use Rattle.amo_safety_by_journals.specs.Model.{Away, Site, site_after, Event as ModelEvent, Lands}
use Rattle.amo_safety_by_journals.specs.Runs.{Clearance, IsRunFrom, site_from}
use Rattle.amo_params.specs.declared.limits.TheConstants.{MAX_WORKERS}
use Rattle.amo_program_safety.proofs.Points.{at_it}
use Rattle.amo_program_safety.proofs.Acting.{Turns, turns_none, turns_then, turns_lands}

-- ---- runs, one after the other

pub site_both : (v : Site) (es more : List ModelEvent) → site_from v (es ++ more) ≡ site_from (site_from v es) more
site_both v [] more = refl
site_both v (e ∷ es) more = site_both (site_after v e) es more

pub run_both : (v : Site) (es more : List ModelEvent) → IsRunFrom Clearance MAX_WORKERS v es → IsRunFrom Clearance MAX_WORKERS (site_from v es) more
    → IsRunFrom Clearance MAX_WORKERS v (es ++ more)
run_both v [] more run then = then
run_both v (e ∷ es) more run then = (run.0, run_both (site_after v e) es more run.1 then)

-- ---- intents of these lines

-- By some events intents of these lines come into the journal of the worker q. No process has the
-- lock on this journal.
pub record Landed (v : Site) (q : ℕ) (lines : List ℕ) : Type 0 where
  pub events : List ModelEvent
  pub run : IsRunFrom Clearance MAX_WORKERS v events
  pub turns : Turns v (site_from v events) q
  pub kept : (site_from v events).kept q ≡ v.kept q ++ lines
  pub away : (site_from v events).stage q ≡ Away

pub lands_all : (v : Site) (q : ℕ) (lines : List ℕ) → v.stage q ≡ Away → Landed v q lines
lands_all v q [] away = record { events = []; run = tt; turns = turns_none v q; kept = sym (append-nil (v.kept q)); away = away }
lands_all v q (line ∷ lines) away = first (lands_all (site_after v (Lands q line)) q lines away)
  where
    first : Landed (site_after v (Lands q line)) q lines → Landed v q (line ∷ lines)
    first rest = record {
      events = Lands q line ∷ rest.events;
      run = (away, rest.run);
      turns = turns_then v (site_after v (Lands q line)) (site_from (site_after v (Lands q line)) rest.events) q (turns_lands v q line) rest.turns;
      kept = rest.kept ∙ (ap (λ (ls : List ℕ). ls ++ lines) (at_it v.kept q (v.kept q ++ line ∷ [])) ∙ append_assoc (v.kept q) (line ∷ []) lines);
      away = rest.away;
    }
