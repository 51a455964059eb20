-- A machine: a world, with the processes of operators' commands and the locks that these commands
-- try. It also has the attempts that are left with runners or commands.
use Rattle.std.specs.Prelude.{ℕ, true, false, List, [], ◌∷◌, ◌++◌, ◌==◌, ◌&&◌, Option, Some, None, if◌then◌else◌}
use Rattle.amo_safety_by_journals.specs.Model.{Handing, with_at}
use Rattle.amo_host.specs.declared.model.LogFile.{LogFile}
use Rattle.amo_host.specs.declared.model.LogFile.TheVariants.{Answers, Journal as JournalFile}
use Rattle.amo_operator.specs.declared.model.Command.{Command}
use Rattle.amo_operator.specs.declared.model.OperatorLock.TheVariants.{Journal}
use Rattle.amo_operator.specs.Calls.{Request, PutDoubt, PutAnswer, Call, Tried, HasUnlocked, HasUnlockedAll, Recovered, HasPutDoubt, HasPutAnswer}
use Rattle.amo_operator.specs.Phase.{Phase, Enters as Entering}
use Rattle.amo_operator.specs.Protocol.{phase_after}
use Rattle.amo_program_safety.specs.World.{Log, World, Event, HandsOver, Stops, Doubts, Resolves, handing_of, with_log, synced, world_after, freed}
use Rattle.amo_program_safety.specs.Runs.{first_world}

-- A process that carries out an operator's command.
pub record Operator : Type 0 where
  -- The phase of the operator's command after all calls that it has made.
  pub phase : Phase
  -- The request of the call that the command is in, if the append of this request is already written.
  pub writes : Option Request

-- The processes of `work` with their logs, and the operators' commands.
pub record Machine : Type 0 where
  pub world : World
  -- The living processes of operators' commands, by their process ids. These ids are separate from the ids of workers' processes.
  pub operator : ℕ → Option Operator
  -- For each worker, the operator's command that has the lock on the worker's journal, if there is one.
  pub held : ℕ → Option ℕ
  -- The attempts that runners have, and whose commands were not started.
  pub waiting : List Handing
  -- The attempts whose commands were started, as long as something of the command is left on this machine.
  pub running : List Handing

-- A step: the next thing that happens on a machine. Operators' commands are given by their process
-- ids.
pub data Step : Type 0 where
  -- This event happens to workers, to runners or to requests.
  Happens : Event → Step
  -- A runner that has this attempt starts the command of the attempt.
  Begins : Handing → Step
  -- Nothing of the command of this attempt is left on this machine from now on.
  Exits : Handing → Step
  -- A runner will not start the command of this attempt: it has declined the attempt, or the runner is gone.
  Drops : Handing → Step
  -- An operator starts this command.
  Enters : (process : ℕ) → Command → Step
  -- The operator's command is in a call with this request, and the append of the request is written. Other processes may read the append from now on.
  Records : (process : ℕ) → Request → Step
  -- A call of the operator's command ends, and the command learns its result.
  Calls : (process : ℕ) → Call → Step
  -- The operator's command dies, in a call or between two calls.
  Dies : (process : ℕ) → Step

-- The list of attempts, without those that have the worker and the serial number of h.
abbrev pub without : Handing → List Handing → List Handing
without h [] = []
without h (x ∷ hs) = if (x.worker == h.worker) && (x.serial == h.serial) then without h hs else x ∷ without h hs

-- The world after an operator's command has written the append of this request.
abbrev pub recorded : World → Request → World
recorded w (PutDoubt attempt time) = world_after w (Doubts attempt.worker attempt.serial time)
recorded w (PutAnswer f) = world_after w (Resolves f)
recorded w r = w

-- The logs after this call of an operator's command.
abbrev pub logs_by : (LogFile → Log) → Call → LogFile → Log
logs_by logs (Recovered log last texts) = with_log logs log (record { kept = texts; rest = [] })
logs_by logs (HasPutDoubt attempt time) = with_log logs (JournalFile attempt.worker) (synced (logs (JournalFile attempt.worker)))
logs_by logs (HasPutAnswer f) = with_log logs Answers (synced (logs Answers))
logs_by logs c = logs

-- For each worker, the command that has the lock on the worker's journal, after a call of this
-- command.
abbrev pub held_by : (ℕ → Option ℕ) → (process : ℕ) → Call → ℕ → Option ℕ
held_by held process (Tried (Journal worker) true) = with_at held worker (Some process)
held_by held process (HasUnlocked worker) = with_at held worker (freed (held worker) process)
held_by held process HasUnlockedAll = λ worker. freed (held worker) process
held_by held process c = held

-- The machine after a call of this operator's command. If no such command lives, the machine stays
-- as it is.
abbrev pub called : Machine → (process : ℕ) → Option Operator → Call → Machine
called m process None c = m
called m process (Some o) c = record m {
  world = record m.world { logs = logs_by m.world.logs c };
  operator = with_at m.operator process (Some (record { phase = phase_after o.phase c; writes = None }));
  held = held_by m.held process c;
}

-- The machine after this operator's command has written the append of a request. If no such command
-- lives, the machine stays as it is.
abbrev pub has_recorded : Machine → (process : ℕ) → Option Operator → Request → Machine
has_recorded m process None r = m
has_recorded m process (Some o) r = record m {
  world = recorded m.world r;
  operator = with_at m.operator process (Some (record o { writes = Some r }));
}

-- The attempts that runners have after an event, and whose commands were not started.
abbrev pub waiting_after : World → List Handing → Event → List Handing
waiting_after w waiting (HandsOver process serial line text) = handing_of (w.process process) serial line ++ waiting
waiting_after w waiting (Stops left) = []
waiting_after w waiting e = waiting

-- The machine after an event. If the machine stops, all operators' commands, all runners and all
-- commands of attempts are gone.
abbrev pub happened : Machine → Event → Machine
happened m (Stops left) = record m {
  world = world_after m.world (Stops left);
  operator = λ process. None;
  held = λ worker. None;
  waiting = [];
  running = [];
}
happened m e = record m { world = world_after m.world e; waiting = waiting_after m.world m.waiting e }

-- The machine after this step.
abbrev pub machine_after : Machine → Step → Machine
machine_after m (Happens e) = happened m e
machine_after m (Begins h) = record m { waiting = without h m.waiting; running = h ∷ m.running }
machine_after m (Exits h) = record m { running = without h m.running }
machine_after m (Drops h) = record m { waiting = without h m.waiting }
machine_after m (Enters process command) = record m { operator = with_at m.operator process (Some (record { phase = Entering command false; writes = None })) }
machine_after m (Records process r) = has_recorded m process (m.operator process) r
machine_after m (Calls process c) = called m process (m.operator process) c
machine_after m (Dies process) = record m {
  operator = with_at m.operator process None;
  held = λ worker. freed (m.held worker) process;
}

-- The machine before the first step.
abbrev pub first_machine : Machine
first_machine = record { world = first_world; operator = λ process. None; held = λ worker. None; waiting = []; running = [] }
