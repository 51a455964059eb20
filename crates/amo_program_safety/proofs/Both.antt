-- A run of workers and commands is a run of the model by journals alone.
use Rattle.std.proofs.Common.{◌≡◌, ℕ, List, [], ◌∷◌, ◌++◌, map, sym, subst}
use Rattle.amo_safety_by_journals.specs.Model.{AreDistinct, Handing, Site, first_site, Event as ModelEvent}
use Rattle.amo_safety_by_journals.specs.Runs.{Clearance, IsRun as IsModelRun, site_from, site_of}
use Rattle.amo_params.specs.declared.limits.TheConstants.{MAX_WORKERS}
use Rattle.amo_operator.specs.Calls.{Request, Call}
use Rattle.amo_program_safety.specs.Machine.{Machine, Step, Happens, Begins, Exits, Drops, Enters, Records, Calls, Dies, machine_after, first_machine}
use Rattle.amo_program_safety.specs.Steps.{MayFollow, IsRun, IsRunFrom, machine_from, machine_of}
use Rattle.amo_program_safety.proofs.Landing.{site_both, run_both}
use Rattle.amo_program_safety.proofs.Whole.{first_goes}
use Rattle.amo_program_safety.proofs.Ordering.{Runs, Leads}
use Rattle.amo_program_safety.proofs.Machines.{happens_lead, begins_lead, exits_lead, drops_lead, enters_lead, dies_lead}

pub first_runs : Runs first_machine first_site
first_runs = record {
  goes = first_goes;
  apart = λ q pid held. absurd (cc held);
  stands = λ pid o is. absurd (cc is);
}

module _
    (calls_lead : (m : Machine) (v : Site) (pid : ℕ) (c : Call) → MayFollow m (Calls pid c) → Runs m v → Leads v (machine_after m (Calls pid c)))
    (records_lead : (m : Machine) (v : Site) (pid : ℕ) (r : Request) → MayFollow m (Records pid r) → Runs m v → Leads v (machine_after m (Records pid r))) where
  pub step_leads : (m : Machine) (v : Site) (s : Step) → MayFollow m s → Runs m v → Leads v (machine_after m s)
  step_leads m v (Happens e) may runs = happens_lead m v e may runs
  step_leads m v (Begins h) may runs = begins_lead m v h may runs
  step_leads m v (Exits h) may runs = exits_lead m v h may runs
  step_leads m v (Drops h) may runs = drops_lead m v h may runs
  step_leads m v (Enters pid command) may runs = enters_lead m v pid command may runs
  step_leads m v (Records pid r) may runs = records_lead m v pid r may runs
  step_leads m v (Calls pid c) may runs = calls_lead m v pid c may runs
  step_leads m v (Dies pid) may runs = dies_lead m v pid may runs

  pub all_lead : (steps : List Step) (m : Machine) (v : Site) → IsRunFrom m steps → Runs m v → Leads v (machine_from m steps)
  all_lead [] m v run runs = record { events = []; run = tt; runs = runs }
  all_lead (s ∷ steps) m v (may, run) runs =
      let first = step_leads m v s may runs in
      let rest = all_lead steps (machine_after m s) (site_from v first.events) run first.runs in
      record {
        events = first.events ++ rest.events;
        run = run_both v first.events rest.events first.run rest.run;
        runs = subst (Runs (machine_from (machine_after m s) steps)) (sym (site_both v first.events rest.events)) rest.runs;
      }

  -- Each run of workers and commands is a run of the model, in which the same attempts perform lines.
  pub both_run : (steps : List Step) → IsRun steps → (es : List ModelEvent) × IsModelRun Clearance MAX_WORKERS es × ((site_of es).performed ≡ (machine_of steps).world.performed)
  both_run steps run =
      let all = all_lead steps first_machine first_site run first_runs in
      (all.events, all.run, all.runs.goes.performed)

  -- If each run of the model performs each line at most once, so does each run of workers and commands.
  pub both_performed_once : ((n : ℕ) (es : List ModelEvent) → IsModelRun Clearance n es → AreDistinct (map (λ (h : Handing). h.line) (site_of es).performed))
      → (steps : List Step) → IsRun steps → AreDistinct (map (λ (h : Handing). h.line) (machine_of steps).world.performed)
  both_performed_once model steps run =
      let (es, model_run, same) = both_run steps run in
      subst (λ (hs : List Handing). AreDistinct (map (λ (h : Handing). h.line) hs)) same (model MAX_WORKERS es model_run)
