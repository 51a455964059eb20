-- An attempt that a command records as in doubt is final on this machine.
use Rattle.std.proofs.Common.{◌≡◌, ⊎_elim, ℕ, List, [], ◌∷◌, Some, None, sym, ap, ◌∙◌, subst}
use Rattle.amo_safety_by_journals.specs.Model.{IsOneOf, Site, first_site}
use Rattle.amo_safety_by_journals.specs.Runs.{site_from}
use Rattle.amo_driver.specs.Stage.{Stage, Clearing, Performing}
use Rattle.amo_host.specs.Phase.{Phase as WorkerPhase, Works, Clears}
use Rattle.amo_status.specs.declared.state.AttemptId.{AttemptId}
use Rattle.amo_operator.specs.declared.model.Command.{Command}
use Rattle.amo_operator.specs.Calls.{Request, PutDoubt, Call}
use Rattle.amo_operator.specs.Phase.{Known, Phase, Enters as Entering, Guards, Checked, HasHeader, Reads, Checks, Settles, Looks, Behind, Pends, Idles, Rests, Probes, Finds, Dates, Records as HasRecorded, Reports, Prints, Waits, Puts, Ended}
use Rattle.amo_operator.specs.Protocol.{Allows}
use Rattle.amo_program_safety.specs.World.{Process, World}
use Rattle.amo_program_safety.specs.Machine.{Operator, Machine, Step, Records, Calls, machine_after, first_machine}
use Rattle.amo_program_safety.specs.Runs.{held_at, held_in}
use Rattle.amo_program_safety.specs.Steps.{MayFollow, IsRun, IsRunFrom, machine_from, machine_of}
use Rattle.amo_program_safety.specs.Finality.{IsFinalHere}
use Rattle.amo_program_safety.proofs.Standing.{At, WorksAt, Settled}
use Rattle.amo_program_safety.proofs.Ordering.{StandsAt, HasOne, Runs, Leads}
use Rattle.amo_program_safety.proofs.Stopping.{HasEnded, StopsAt, Stops}
use Rattle.amo_program_safety.proofs.StoppingSteps.{step_stops}
use Rattle.amo_program_safety.proofs.Both.{first_runs, step_leads}

-- ---- what a process holds

module _ (w : World) (v : Site) (pid : ℕ) (p : Process) (s : ℕ) where
  works_owns : (jobs : List ℕ) (st : Stage) → WorksAt w v pid p jobs st → held_at st ≡ Some s → w.guard p.worker ≡ Some pid
  works_owns jobs (Clearing n a j) at is = at.1.owns.guard
  works_owns jobs (Performing n a j) at is = ⊎_elim (λ has. has.2.owns.guard) (λ gave. gave.quiet.owns.guard) at
  works_owns jobs st at is = absurd (cc is)

  -- A process that may yet hand an attempt over has the lock on its journal.
  pub holder_owns : (ph : WorkerPhase) → At w v pid p ph → held_in ph ≡ Some s → w.guard p.worker ≡ Some pid
  holder_owns (Works me jobs st owes logs) at is = works_owns jobs st at.2 is
  holder_owns (Clears me jobs n a j logs left) at is = ⊎_elim (λ clears. clears.2.owns.guard) (λ drops. drops.owns.guard) at.2
  holder_owns ph at is = absurd (cc is)

-- ---- a command records a doubt

-- what it knows of the attempt
record Found (m : Machine) (v : Site) (pid : ℕ) (i : AttemptId) : Type 0 where
  pub one : HasOne m v pid i
  pub ended : HasEnded m pid i

found_at : (m : Machine) (v : Site) (pid : ℕ) (ph : Phase) (i : AttemptId) (time : ℕ) → Allows ph (PutDoubt i time) → StandsAt m v pid ph → StopsAt m pid ph
    → Found m v pid i
found_at m v pid (Entering command tried) i time may stands stops = ⊎_elim (λ e. absurd (cc e)) (λ h. let e = h.2 in absurd (cc e)) may
found_at m v pid (Guards command) i time may stands stops = absurd (cc may)
found_at m v pid (Checked command) i time may stands stops = absurd (cc may)
found_at m v pid (HasHeader command last) i time may stands stops = absurd (cc may)
found_at m v pid (Reads command last t []) i time may stands stops = absurd may
found_at m v pid (Reads command last t (w ∷ left)) i time may stands stops = absurd (cc may)
found_at m v pid (Checks command last t) i time may stands stops = absurd (cc may)
found_at m v pid (Settles command last t) i time may stands stops = absurd (cc may)
found_at m v pid (Looks command last t []) i time may stands stops = absurd (cc may)
found_at m v pid (Looks command last t (w ∷ left)) i time may stands stops = absurd (cc may)
found_at m v pid (Behind command last t w left) i time may stands stops = absurd (cc may)
found_at m v pid (Pends command last t w left) i time may stands stops = absurd (cc may)
found_at m v pid (Idles command last t w left) i time may stands stops = absurd (cc may)
found_at m v pid (Rests command last t w left) i time may stands stops = absurd (cc may)
found_at m v pid (Probes command k []) i time may stands stops = absurd (cc may)
found_at m v pid (Probes command k (j ∷ left)) i time may stands stops = absurd (cc may)
found_at m v pid (Finds command k j left) i time may stands stops = absurd (cc may)
found_at m v pid (Dates command k j at left) i time may stands stops =
    let same : j ≡ i = sym (cc may) in
    record { one = subst (HasOne m v pid) same stands.1; ended = subst (HasEnded m pid) same stops.0 }
found_at m v pid (HasRecorded command k j left) i time may stands stops = absurd (cc may)
found_at m v pid (Reports text) i time may stands stops = absurd (cc may)
found_at m v pid (Prints text) i time may stands stops = absurd (cc may)
found_at m v pid (Waits command) i time may stands stops = absurd (cc may)
found_at m v pid (Puts []) i time may stands stops = absurd may
found_at m v pid (Puts (f ∷ left)) i time may stands stops = absurd (cc may)
found_at m v pid Ended i time may stands stops = absurd may

found : (m : Machine) (v : Site) (pid : ℕ) (i : AttemptId) (time : ℕ) → MayFollow m (Records pid (PutDoubt i time)) → Runs m v → Stops m → Found m v pid i
found m v pid i time (o, (is, allowed), idle, fits) runs stops =
    found_at m v pid o.phase i time allowed (runs.stands pid o is) (stops.stops pid o is)

pub doubt_settled : (m : Machine) (v : Site) (pid : ℕ) (i : AttemptId) (time : ℕ) → MayFollow m (Records pid (PutDoubt i time)) → Runs m v → Stops m
    → Settled v i.worker i.serial
doubt_settled m v pid i time may runs stops = (found m v pid i time may runs stops).one.2

-- An attempt that a command has found ended is final.
pub ended_final : (m : Machine) (v : Site) (pid : ℕ) (i : AttemptId) → Runs m v → HasEnded m pid i → IsFinalHere m i.worker i.serial
ended_final m v pid i runs ended = record {
  not_held = λ process p lives of holds.
      let owns : m.world.guard i.worker ≡ Some process =
      ap m.world.guard (sym of) ∙ holder_owns m.world v process p i.serial p.phase (runs.goes.stand process p lives).here holds in
      let free : m.world.guard i.worker ≡ None = runs.apart i.worker pid ended.stopped.held in
      absurd (cc (owns, free));
  not_waiting = λ h one named. ended.stopped.idle h one named.0;
  not_running = λ h one named. ended.gone h one named;
}

pub doubt_final : (m : Machine) (v : Site) (pid : ℕ) (i : AttemptId) (time : ℕ) → MayFollow m (Records pid (PutDoubt i time)) → Runs m v → Stops m
    → IsFinalHere m i.worker i.serial
doubt_final m v pid i time may runs stops = ended_final m v pid i runs (found m v pid i time may runs stops).ended

-- So are all attempts that a command has found final, while it has its locks.
pub finals_final : (m : Machine) (v : Site) (pid : ℕ) (o : Operator) (command : Command) (k : Known) (left : List AttemptId) → m.operator pid ≡ Some o
    → o.phase ≡ Probes command k left → Runs m v → Stops m → (i : AttemptId) → IsOneOf k.finals i → IsFinalHere m i.worker i.serial
finals_final m v pid o command k left is at runs stops i one =
    let here : StopsAt m pid (Probes command k left) = subst (StopsAt m pid) at (stops.stops pid o is) in
    ended_final m v pid i runs (here.1 i one)

-- ---- runs

-- There is a site that goes with this machine, on which commands have stopped what they say.
pub record Stands (m : Machine) : Type 0 where
  pub site : Site
  pub runs : Runs m site
  pub stops : Stops m

pub first_stands : Stands first_machine
first_stands = record { site = first_site; runs = first_runs; stops = record { stops = λ pid o is. absurd (cc is) } }

module _
    (calls_lead : (m : Machine) (v : Site) (pid : ℕ) (c : Call) → MayFollow m (Calls pid c) → Runs m v → Leads v (machine_after m (Calls pid c)))
    (records_lead : (m : Machine) (v : Site) (pid : ℕ) (r : Request) → MayFollow m (Records pid r) → Runs m v → Leads v (machine_after m (Records pid r))) where
  pub all_stand : (steps : List Step) (m : Machine) → IsRunFrom m steps → Stands m → Stands (machine_from m steps)
  all_stand [] m run stands = stands
  all_stand (s ∷ steps) m (may, run) stands =
      let next = step_leads calls_lead records_lead m stands.site s may stands.runs in
      all_stand steps (machine_after m s) run
      (record { site = site_from stands.site next.events; runs = next.runs; stops = step_stops m stands.site s may stands.runs stands.stops })

  -- In each run, an attempt is final when a command records it as in doubt.
  pub doubts_are_final : (steps : List Step) (pid : ℕ) (i : AttemptId) (time : ℕ) → IsRun steps → MayFollow (machine_of steps) (Records pid (PutDoubt i time))
      → IsFinalHere (machine_of steps) i.worker i.serial
  doubts_are_final steps pid i time run may =
      let stands = all_stand steps first_machine run first_stands in
      doubt_final (machine_of steps) stands.site pid i time may stands.runs stands.stops

  -- While a command looks at attempts or decides, those that it has found final are so.
  pub finals_are_final : (steps : List Step) (pid : ℕ) (o : Operator) (command : Command) (k : Known) (left : List AttemptId) → IsRun steps
      → (machine_of steps).operator pid ≡ Some o → o.phase ≡ Probes command k left → (i : AttemptId) → IsOneOf k.finals i
      → IsFinalHere (machine_of steps) i.worker i.serial
  finals_are_final steps pid o command k left run is at i one =
      let stands = all_stand steps first_machine run first_stands in
      finals_final (machine_of steps) stands.site pid o command k left is at stands.runs stands.stops i one
