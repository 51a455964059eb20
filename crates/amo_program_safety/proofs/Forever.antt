-- An attempt that is final on a machine stays so.
use Rattle.std.proofs.Common.{◌≡◌, ⊎_elim, ℕ, List, [], ◌∷◌, ◌++◌, Option, Some, None, refl, sym, ap, ◌∙◌, subst}
use Rattle.amo_safety_by_journals.specs.Model.{Handing, IsOneOf, Clearing as ModelClearing, Site, with_at}
use Rattle.amo_safety_by_journals.specs.Runs.{site_from}
use Rattle.amo_driver.specs.Stage.{Stage, Clearing}
use Rattle.amo_host.specs.Calls.{Request as WorkerRequest, Call as WorkerCall}
use Rattle.amo_host.specs.Phase.{Phase as WorkerPhase, Works}
use Rattle.amo_host.specs.Protocol.{phase_after}
use Rattle.amo_status.specs.declared.state.AttemptId.{AttemptId}
use Rattle.amo_operator.specs.Calls.{Request, PutDoubt, PutAnswer, Call}
use Rattle.amo_program_safety.specs.World.{Process, World, Event, Starts, Writes, HandsOver, Calls as WorkerCalls, Dies as WorkerDies, Stops as Stopped, Performs, Ends, Doubts, Resolves, Recovers, handing_of, new_process, process_by, called as has_called, written, world_after}
use Rattle.amo_program_safety.specs.Machine.{Operator, Machine, Step, Happens, Begins, Exits, Drops, Enters, Records, Calls, Dies, called, has_recorded, machine_after, first_machine}
use Rattle.amo_program_safety.specs.Runs.{IsNamed, held_in}
use Rattle.amo_program_safety.specs.Steps.{MayFollow, IsRun, IsRunFrom, machine_from, machine_of}
use Rattle.amo_program_safety.specs.Finality.{IsFinalHere}
use Rattle.amo_program_safety.proofs.Texts.{of_both}
use Rattle.amo_program_safety.proofs.Standing.{At, Settled, Goes}
use Rattle.amo_program_safety.proofs.Points.{at_number, at_it}
use Rattle.amo_program_safety.proofs.Happens.{some_is}
use Rattle.amo_program_safety.proofs.Settling.{settled_from}
use Rattle.amo_program_safety.proofs.Ordering.{Runs, Leads}
use Rattle.amo_program_safety.proofs.Holding.{HasPutIt, HasJustPut, phase_from}
use Rattle.amo_program_safety.proofs.Machines.{happens_lead}
use Rattle.amo_program_safety.proofs.Both.{step_leads}
use Rattle.amo_program_safety.proofs.StoppingSteps.{left_of, given_at}
use Rattle.amo_program_safety.proofs.Final.{first_stands, doubt_settled, doubt_final, all_stand}

-- ---- no process comes to hold it

-- no process of this worker may yet hand over the attempt of this serial number
abbrev NotHeld : World → (worker serial : ℕ) → Type 0
NotHeld w q s = (pid : ℕ) (p : Process) → w.process pid ≡ Some p → p.worker ≡ q → held_in p.phase ≡ Some s → ⊥

-- one process changes
change_held : (w w' : World) (pid : ℕ) (x : Option Process) (q s : ℕ) → w'.process ≡ with_at w.process pid x
    → ((p : Process) → x ≡ Some p → p.worker ≡ q → held_in p.phase ≡ Some s → ⊥) → NotHeld w q s → NotHeld w' q s
change_held w w' pid x q s same new old other p lives = at_number
    (λ (y : Option Process). y ≡ Some p → p.worker ≡ q → held_in p.phase ≡ Some s → ⊥) w.process pid x other
    (λ e is. new p is)
    (λ n is. old other p is)
    (ap (λ (f : ℕ → Option Process). f other) (sym same) ∙ lives)

written_held : (w : World) (pid : ℕ) (o : Option Process) (r : WorkerRequest) (q s : ℕ) → w.process pid ≡ o → NotHeld w q s → NotHeld (written w pid o r) q s
written_held w pid None r q s is old = old
written_held w pid (Some p) r q s is old = change_held w (written w pid (Some p) r) pid (Some (record p { writes = Some r })) q s refl
    (λ p' e of holds.
    let same : record p { writes = Some r } ≡ p' = some_is e in
    old pid p is (ap (λ (y : Process). y.worker) same ∙ of) (ap (λ (y : Process). held_in y.phase) same ∙ holds))
    old

-- an attempt whose intent was just put is the one that the model's process holds
pub just_put : (w : World) (v : Site) (pid : ℕ) (p : Process) (s : ℕ) (ph : WorkerPhase) → At w v pid p ph → HasJustPut ph s → Settled v p.worker s → ⊥
just_put w v pid p s (Works me jobs st owes logs) at put settled = by st at put
  where
    by : (st : Stage) → At w v pid p (Works me jobs st owes logs) → HasPutIt st s → ⊥
    by (Clearing n a j) at put = settled.1 at.2.0 [] (at.2.1.stage ∙ ap (λ (k : ℕ). ModelClearing k at.2.0 []) put)
    by st at put = absurd put
just_put w v pid p s ph at put settled = absurd put

called_held : (w : World) (v' : Site) (pid : ℕ) (o : Option Process) (c : WorkerCall) (q s : ℕ) → w.process pid ≡ o → Goes (has_called w pid o c) v' → Settled v' q s
    → NotHeld w q s → NotHeld (has_called w pid o c) q s
called_held w v' pid None c q s is goes settled old = old
called_held w v' pid (Some p) c q s is goes settled old =
    let w' : World = has_called w pid (Some p) c in
    change_held w w' pid (Some (process_by p c)) q s refl
    (λ p' e of holds.
    let same : process_by p c ≡ p' = some_is e in
    let worker_is : p.worker ≡ q = ap (λ (y : Process). y.worker) same ∙ of in
    ⊎_elim
    (λ (before : held_in p.phase ≡ Some s). old pid p is worker_is before)
    (λ (put : HasJustPut (phase_after p.phase c) s).
    just_put w' v' pid (process_by p c) s (phase_after p.phase c)
    (goes.stand pid (process_by p c) (at_it w.process pid (Some (process_by p c)))).here put
    (subst (λ k. Settled v' k s) (sym worker_is) settled))
    (phase_from p.phase c s (ap (λ (y : Process). held_in y.phase) same ∙ holds)))
    old

event_held : (w : World) (v' : Site) (e : Event) (q s : ℕ) → Goes (world_after w e) v' → Settled v' q s → NotHeld w q s → NotHeld (world_after w e) q s
event_held w v' (Starts pid worker) q s goes settled old =
    change_held w (world_after w (Starts pid worker)) pid (Some (new_process worker)) q s refl
    (λ p' e of holds. let none : held_in (new_process worker).phase ≡ Some s = ap (λ (y : Process). held_in y.phase) (some_is e) ∙ holds in absurd (cc none)) old
event_held w v' (Writes pid r) q s goes settled old = written_held w pid (w.process pid) r q s refl old
event_held w v' (HandsOver pid serial line text) q s goes settled old = old
event_held w v' (WorkerCalls pid c) q s goes settled old = called_held w v' pid (w.process pid) c q s refl goes settled old
event_held w v' (WorkerDies pid) q s goes settled old =
    change_held w (world_after w (WorkerDies pid)) pid None q s refl (λ p' e of holds. absurd (cc e)) old
event_held w v' (Stopped left) q s goes settled old = λ pid p lives of holds. absurd (cc lives)
event_held w v' (Performs h) q s goes settled old = old
event_held w v' (Ends i) q s goes settled old = old
event_held w v' (Doubts worker serial time) q s goes settled old = old
event_held w v' (Resolves f) q s goes settled old = old
event_held w v' (Recovers log more) q s goes settled old = old

-- ---- steps

happens_final : (m : Machine) (v : Site) (e : Event) (q s : ℕ) → MayFollow m (Happens e) → Runs m v → Settled v q s → IsFinalHere m q s
    → NotHeld (world_after m.world e) q s → IsFinalHere (machine_after m (Happens e)) q s
happens_final m v (Stopped left) q s may runs settled final held =
    record { not_held = held; not_waiting = λ h one named. absurd one; not_running = λ h one named. absurd one }
happens_final m v (HandsOver pid serial line text) q s may runs settled final held = record {
  not_held = held;
  not_waiting = λ h one named. ⊎_elim
      (λ new.
      let given = given_at m.world v pid serial line text may.0 runs.goes h new in
      settled.1 given.line given.seen
      (ap v.stage (sym named.0) ∙ (given.stage ∙ ap (λ (k : ℕ). ModelClearing k given.line given.seen) named.1)))
      (λ old. final.not_waiting h old named)
      (of_both (handing_of (m.world.process pid) serial line) m.waiting h one);
  not_running = final.not_running;
}
happens_final m v e q s may runs settled final held = record { not_held = held; not_waiting = final.not_waiting; not_running = final.not_running }

called_final : (m : Machine) (pid : ℕ) (x : Option Operator) (c : Call) (q s : ℕ) → IsFinalHere m q s → IsFinalHere (called m pid x c) q s
called_final m pid None c q s final = final
called_final m pid (Some o) c q s final = record { not_held = final.not_held; not_waiting = final.not_waiting; not_running = final.not_running }

recorded_final : (m : Machine) (pid : ℕ) (x : Option Operator) (r : Request) (q s : ℕ) → IsFinalHere m q s → IsFinalHere (has_recorded m pid x r) q s
recorded_final m pid None r q s final = final
recorded_final m pid (Some o) (PutDoubt i time) q s final =
    record { not_held = final.not_held; not_waiting = final.not_waiting; not_running = final.not_running }
recorded_final m pid (Some o) (PutAnswer f) q s final =
    record { not_held = final.not_held; not_waiting = final.not_waiting; not_running = final.not_running }
recorded_final m pid (Some o) r q s final = record { not_held = final.not_held; not_waiting = final.not_waiting; not_running = final.not_running }

-- An attempt whose intent is kept, and that is final, stays final.
pub final_stays : (m : Machine) (v : Site) (s : Step) (worker serial : ℕ) → MayFollow m s → Runs m v → Settled v worker serial → IsFinalHere m worker serial
    → IsFinalHere (machine_after m s) worker serial
final_stays m v (Happens e) worker serial may runs settled final =
    let next = happens_lead m v e may runs in
    happens_final m v e worker serial may runs settled final
    (event_held m.world (site_from v next.events) e worker serial (happened_goes e next) (settled_from v next.events worker serial settled) final.not_held)
  where
    happened_goes : (e : Event) → (next : Leads v (machine_after m (Happens e))) → Goes (world_after m.world e) (site_from v next.events)
    happened_goes (Stopped left) next = next.runs.goes
    happened_goes e next = next.runs.goes
final_stays m v (Begins h) worker serial may runs settled final = record {
  not_held = final.not_held;
  not_waiting = λ x one named. final.not_waiting x (left_of h m.waiting x one) named;
  not_running = λ x one named. ⊎_elim
      (λ (e : h ≡ x). final.not_waiting x (subst (IsOneOf m.waiting) e may) named)
      (λ old. final.not_running x old named) one;
}
final_stays m v (Exits h) worker serial may runs settled final = record {
  not_held = final.not_held;
  not_waiting = final.not_waiting;
  not_running = λ x one named. final.not_running x (left_of h m.running x one) named;
}
final_stays m v (Drops h) worker serial may runs settled final = record {
  not_held = final.not_held;
  not_waiting = λ x one named. final.not_waiting x (left_of h m.waiting x one) named;
  not_running = final.not_running;
}
final_stays m v (Enters pid command) worker serial may runs settled final =
    record { not_held = final.not_held; not_waiting = final.not_waiting; not_running = final.not_running }
final_stays m v (Records pid r) worker serial may runs settled final = recorded_final m pid (m.operator pid) r worker serial final
final_stays m v (Calls pid c) worker serial may runs settled final = called_final m pid (m.operator pid) c worker serial final
final_stays m v (Dies pid) worker serial may runs settled final =
    record { not_held = final.not_held; not_waiting = final.not_waiting; not_running = final.not_running }

-- ---- runs

-- A run of some steps and some more.
both_runs : (steps more : List Step) (m : Machine) → IsRunFrom m (steps ++ more) → IsRunFrom m steps × IsRunFrom (machine_from m steps) more
both_runs [] more m run = (tt, run)
both_runs (s ∷ steps) more m (may, run) =
    let rest = both_runs steps more (machine_after m s) run in
    ((may, rest.0), rest.1)

both_machines : (steps more : List Step) (m : Machine) → machine_from m (steps ++ more) ≡ machine_from (machine_from m steps) more
both_machines [] more m = refl
both_machines (s ∷ steps) more m = both_machines steps more (machine_after m s)

module _
    (calls_lead : (m : Machine) (v : Site) (pid : ℕ) (c : Call) → MayFollow m (Calls pid c) → Runs m v → Leads v (machine_after m (Calls pid c)))
    (records_lead : (m : Machine) (v : Site) (pid : ℕ) (r : Request) → MayFollow m (Records pid r) → Runs m v → Leads v (machine_after m (Records pid r))) where
  final_from : (steps : List Step) (m : Machine) (v : Site) (worker serial : ℕ) → IsRunFrom m steps → Runs m v → Settled v worker serial
      → IsFinalHere m worker serial → IsFinalHere (machine_from m steps) worker serial
  final_from [] m v worker serial run runs settled final = final
  final_from (s ∷ steps) m v worker serial (may, run) runs settled final =
      let next = step_leads calls_lead records_lead m v s may runs in
      final_from steps (machine_after m s) (site_from v next.events) worker serial run next.runs
      (settled_from v next.events worker serial settled) (final_stays m v s worker serial may runs settled final)

  -- An attempt that a command has recorded as in doubt is final, however the run goes on.
  pub doubts_stay_final : (steps : List Step) (pid : ℕ) (i : AttemptId) (time : ℕ) (more : List Step)
      → IsRun (steps ++ Records pid (PutDoubt i time) ∷ more) → IsFinalHere (machine_of (steps ++ Records pid (PutDoubt i time) ∷ more)) i.worker i.serial
  doubts_stay_final steps pid i time more run =
      let parts = both_runs steps (Records pid (PutDoubt i time) ∷ more) first_machine run in
      let stands = all_stand calls_lead records_lead steps first_machine parts.0 first_stands in
      subst (λ (x : Machine). IsFinalHere x i.worker i.serial) (sym (both_machines steps (Records pid (PutDoubt i time) ∷ more) first_machine))
      (final_from (Records pid (PutDoubt i time) ∷ more) (machine_of steps) stands.site i.worker i.serial parts.1 stands.runs
      (doubt_settled (machine_of steps) stands.site pid i time parts.1.0 stands.runs stands.stops)
      (doubt_final (machine_of steps) stands.site pid i time parts.1.0 stands.runs stands.stops))

  -- So no runner starts its command any more.
  pub doubts_never_begin : (steps : List Step) (pid : ℕ) (i : AttemptId) (time : ℕ) (more : List Step) (h : Handing)
      → IsRun (steps ++ Records pid (PutDoubt i time) ∷ more) → MayFollow (machine_of (steps ++ Records pid (PutDoubt i time) ∷ more)) (Begins h)
      → IsNamed i.worker i.serial h → ⊥
  doubts_never_begin steps pid i time more h run may named = (doubts_stay_final steps pid i time more run).not_waiting h may named
