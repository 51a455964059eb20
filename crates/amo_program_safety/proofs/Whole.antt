-- A run of processes is a run of the model by journals alone.
use Rattle.std.proofs.Common.{ℕ, List, [], ◌∷◌, ◌++◌, map, refl, sym, subst}
use Rattle.amo_safety_by_journals.specs.Model.{AreDistinct, Handing, Site, first_site, Event as ModelEvent}
use Rattle.amo_safety_by_journals.specs.Runs.{Clearance, IsRun as IsModelRun, site_from, site_of}
use Rattle.amo_params.specs.declared.limits.TheConstants.{MAX_WORKERS}
use Rattle.amo_program_safety.specs.World.{World, Event, Starts, Writes, HandsOver, Calls, Dies, Stops, Performs, Ends, Doubts, Resolves, Recovers, world_after}
use Rattle.amo_program_safety.specs.Runs.{MayFollow, IsRun, IsRunFrom, first_world, world_from, world_of}
use Rattle.amo_program_safety.proofs.Standing.{Goes}
use Rattle.amo_program_safety.proofs.Moves.{Reaches}
use Rattle.amo_program_safety.proofs.Landing.{site_both, run_both}
use Rattle.amo_program_safety.proofs.Happens.{starts, hands_over, dies, stops, performs, ends, doubts, recovers}
use Rattle.amo_program_safety.proofs.Resolving.{resolves}
use Rattle.amo_program_safety.proofs.Writing.{writes_step}
use Rattle.amo_program_safety.proofs.Calling.{calls_step}

pub happens : (w : World) (v : Site) (e : Event) → MayFollow w e → Goes w v → Reaches v (world_after w e)
happens w v (Starts pid worker) may goes = starts w v pid worker may goes
happens w v (Writes pid r) may goes = writes_step w v goes pid r may
happens w v (HandsOver pid serial line text) may goes = hands_over w v pid serial line text may goes
happens w v (Calls pid c) may goes = calls_step w v goes pid c may
happens w v (Dies pid) may goes = dies w v pid may goes
happens w v (Stops left) may goes = stops w v left may goes
happens w v (Performs h) may goes = performs w v h may goes
happens w v (Ends i) may goes = ends w v i may goes
happens w v (Doubts worker serial time) may goes = doubts w v worker serial time may goes
happens w v (Resolves f) may goes = resolves w v f may goes
happens w v (Recovers log more) may goes = recovers w v log more may goes

all_happen : (es : List Event) (w : World) (v : Site) → IsRunFrom w es → Goes w v → Reaches v (world_from w es)
all_happen [] w v run goes = record { events = []; run = tt; goes = goes }
all_happen (e ∷ es) w v (may, run) goes =
    let first = happens w v e may goes in
    let rest = all_happen es (world_after w e) (site_from v first.events) run first.goes in
    record {
      events = first.events ++ rest.events;
      run = run_both v first.events rest.events first.run rest.run;
      goes = subst (Goes (world_from (world_after w e) es)) (sym (site_both v first.events rest.events)) rest.goes;
    }

pub first_goes : Goes first_world first_site
first_goes = record {
  alive = refl;
  performed = refl;
  kept = λ q. refl;
  nobody = refl;
  unbegun = λ q s text one says. absurd one;
  answered = λ q s c text one says. absurd one;
  undone = λ text one f says not. absurd one;
  alive_handed = λ h one. one;
  performed_handed = λ h one. one;
  handed = λ h one. absurd one;
  away = λ q none. refl;
  owner = λ q pid is. absurd (cc is);
  stand = λ pid p is. absurd (cc is);
}

-- If each run of the model performs each line at most once, so does each run of processes.
pub performed_once : ((n : ℕ) (es : List ModelEvent) → IsModelRun Clearance n es → AreDistinct (map (λ (h : Handing). h.line) (site_of es).performed))
    → (es : List Event) → IsRun es → AreDistinct (map (λ (h : Handing). h.line) (world_of es).performed)
performed_once model es run =
    let all = all_happen es first_world first_site run first_goes in
    subst (λ (hs : List Handing). AreDistinct (map (λ (h : Handing). h.line) hs)) all.goes.performed (model MAX_WORKERS all.events all.run)
