-- The steps of a machine other than appends and calls of operators' commands. For each step, the
-- model has events that lead to a site that goes with the machine.
use Rattle.std.proofs.Common.{◌≡◌, ℕ, List, [], ◌∷◌, Option, Some, None, refl, sym, ap, ◌∙◌, subst}
use Rattle.std.specs.Prelude.{true, false}
use Rattle.amo_safety_by_journals.specs.Model.{Handing, Site}
use Rattle.amo_safety_by_journals.specs.Runs.{site_from}
use Rattle.amo_host.specs.declared.model.RunLock.TheVariants.{Guard}
use Rattle.amo_host.specs.Calls.{Request as WorkerRequest, Call as WorkerCall, Tried}
use Rattle.amo_operator.specs.declared.model.Command.{Command}
use Rattle.amo_operator.specs.Phase.{Enters as Entering}
use Rattle.amo_program_safety.specs.World.{Process, World, Event, Starts, Writes, HandsOver, Calls as WorkerCalls, Dies as WorkerDies, Stops, Performs, Ends, Doubts, Resolves, Recovers, written, called, guard_by, freed, world_after}
use Rattle.amo_program_safety.specs.Machine.{Operator, Machine, Happens, Begins, Exits, Drops, Enters, Dies, without, waiting_after, machine_after}
use Rattle.amo_program_safety.specs.Steps.{LockIsFree, MayFollow}
use Rattle.amo_program_safety.proofs.Moves.{Reaches}
use Rattle.amo_program_safety.proofs.Points.{at_number}
use Rattle.amo_program_safety.proofs.Happens.{some_is, freed_some, freed_other}
use Rattle.amo_program_safety.proofs.Whole.{happens}
use Rattle.amo_program_safety.proofs.Settling.{settled_from, kept_from}
use Rattle.amo_program_safety.proofs.Ordering.{StandsAt, Runs, Leads}
use Rattle.amo_program_safety.proofs.Staying.{stands_still}

-- ---- the locks of workers

written_guard : (w : World) (pid : ℕ) (o : Option Process) (r : WorkerRequest) (q : ℕ) → w.guard q ≡ None → (written w pid o r).guard q ≡ None
written_guard w pid None r q none = none
written_guard w pid (Some p) r q none = none

-- A call of a worker's process locks no journal that a command has locked.
call_guard : (m : Machine) (pid : ℕ) (c : WorkerCall) (q holder : ℕ) → LockIsFree m (WorkerCalls pid c) → m.held q ≡ Some holder → m.world.guard q ≡ None
    → guard_by m.world.guard pid c q ≡ None
call_guard m pid (Tried (Guard worker) hold true) q holder free held none =
    at_number (λ x. x ≡ None) m.world.guard worker (Some pid) q
    (λ (e : q ≡ worker). let taken : m.held worker ≡ Some holder = ap m.held (sym e) ∙ held in absurd (cc (taken, free)))
    (λ other. none)
call_guard m pid c q holder free held none = none

called_guard : (w : World) (pid : ℕ) (o : Option Process) (c : WorkerCall) (q : ℕ) → w.guard q ≡ None → guard_by w.guard pid c q ≡ None
    → (called w pid o c).guard q ≡ None
called_guard w pid None c q none by = none
called_guard w pid (Some p) c q none by = by

-- After an event, no worker's process has the lock on a journal that a command has locked.
still_apart : (m : Machine) (e : Event) (q holder : ℕ) → LockIsFree m e → m.held q ≡ Some holder → m.world.guard q ≡ None
    → (world_after m.world e).guard q ≡ None
still_apart m (Starts pid worker) q holder free held none = none
still_apart m (Writes pid r) q holder free held none = written_guard m.world pid (m.world.process pid) r q none
still_apart m (HandsOver pid serial line text) q holder free held none = none
still_apart m (WorkerCalls pid c) q holder free held none =
    called_guard m.world pid (m.world.process pid) c q none (call_guard m pid c q holder free held none)
still_apart m (WorkerDies pid) q holder free held none = ap (λ (g : Option ℕ). freed g pid) none
still_apart m (Stops left) q holder free held none = refl
still_apart m (Performs h) q holder free held none = none
still_apart m (Ends i) q holder free held none = none
still_apart m (Doubts worker serial time) q holder free held none = none
still_apart m (Resolves f) q holder free held none = none
still_apart m (Recovers log more) q holder free held none = none

-- ---- events of workers, of runners and of requests

-- The model follows a step that changes only the world and the attempts that runners have.
goes_on : (m : Machine) (v : Site) (w : World) (waiting : List Handing) → Runs m v → Reaches v w → ((q pid : ℕ) → m.held q ≡ Some pid → w.guard q ≡ None)
    → Leads v (record m { world = w; waiting = waiting })
goes_on m v w waiting runs reaches apart = record {
  events = reaches.events;
  run = reaches.run;
  runs = record {
    goes = reaches.goes;
    apart = apart;
    stands = λ pid o is. stands_still m (record m { world = w; waiting = waiting }) v (site_from v reaches.events) pid o.phase
        (settled_from v reaches.events) (kept_from v reaches.events) (λ q held. held) (runs.stands pid o is);
  };
}

pub happens_lead : (m : Machine) (v : Site) (e : Event) → MayFollow m (Happens e) → Runs m v → Leads v (machine_after m (Happens e))
happens_lead m v (Stops left) may runs =
    let reaches = happens m.world v (Stops left) may.0 runs.goes in
    record {
      events = reaches.events;
      run = reaches.run;
      runs = record {
        goes = reaches.goes;
        apart = λ q pid held. refl;
        stands = λ pid o is. absurd (cc is);
      };
    }
happens_lead m v e may runs =
    goes_on m v (world_after m.world e) (waiting_after m.world m.waiting e) runs (happens m.world v e may.0 runs.goes)
    (λ q pid held. still_apart m e q pid may.1 held (runs.apart q pid held))

-- ---- steps without an event of the model

-- The model makes no event for a step that changes only the attempts on the machine.
attempts_change : (m : Machine) (v : Site) (waiting running : List Handing) → Runs m v → Leads v (record m { waiting = waiting; running = running })
attempts_change m v waiting running runs = record {
  events = [];
  run = tt;
  runs = record {
    goes = runs.goes;
    apart = runs.apart;
    stands = λ pid o is. stands_still m (record m { waiting = waiting; running = running }) v v pid o.phase
        (λ q s is. is) (λ q s line is. is) (λ q held. held) (runs.stands pid o is);
  };
}

pub begins_lead : (m : Machine) (v : Site) (h : Handing) → MayFollow m (Begins h) → Runs m v → Leads v (machine_after m (Begins h))
begins_lead m v h may runs = attempts_change m v (without h m.waiting) (h ∷ m.running) runs

pub exits_lead : (m : Machine) (v : Site) (h : Handing) → MayFollow m (Exits h) → Runs m v → Leads v (machine_after m (Exits h))
exits_lead m v h may runs = attempts_change m v m.waiting (without h m.running) runs

pub drops_lead : (m : Machine) (v : Site) (h : Handing) → MayFollow m (Drops h) → Runs m v → Leads v (machine_after m (Drops h))
drops_lead m v h may runs = attempts_change m v (without h m.waiting) m.running runs

pub enters_lead : (m : Machine) (v : Site) (pid : ℕ) (command : Command) → MayFollow m (Enters pid command) → Runs m v
    → Leads v (machine_after m (Enters pid command))
enters_lead m v pid command may runs = record {
  events = [];
  run = tt;
  runs = record {
    goes = runs.goes;
    apart = runs.apart;
    stands = λ other o. at_number (λ (x : Option Operator). x ≡ Some o → StandsAt (machine_after m (Enters pid command)) v other o.phase)
        m.operator pid (Some (record { phase = Entering command false; writes = None })) other
        (λ e is. subst (λ (x : Operator). StandsAt (machine_after m (Enters pid command)) v other x.phase) (some_is is) tt)
        (λ n is. stands_still m (machine_after m (Enters pid command)) v v other o.phase
        (λ q s is. is) (λ q s line is. is) (λ q held. held) (runs.stands other o is));
  };
}

pub dies_lead : (m : Machine) (v : Site) (pid : ℕ) → MayFollow m (Dies pid) → Runs m v → Leads v (machine_after m (Dies pid))
dies_lead m v pid may runs = record {
  events = [];
  run = tt;
  runs = record {
    goes = runs.goes;
    apart = λ q other held. runs.apart q other (freed_some (m.held q) pid other held).0;
    stands = λ other o. at_number (λ (x : Option Operator). x ≡ Some o → StandsAt (machine_after m (Dies pid)) v other o.phase)
        m.operator pid None other
        (λ e is. absurd (cc is))
        (λ n is. stands_still m (machine_after m (Dies pid)) v v other o.phase
        (λ q s is. is) (λ q s line is. is) (λ q held. freed_other (m.held q) pid other n held) (runs.stands other o is));
  };
}
