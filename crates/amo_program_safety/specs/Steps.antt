-- The runs of a machine with workers and operators' commands.
use Rattle.std.specs.Prelude.{◌≡◌, ⊤, ℕ, ◌<◌, ◌^◌, true, List, [], ◌∷◌, Option, Some, None}
use Rattle.amo_safety_by_journals.specs.Model.{Handing, IsOneOf}
use Rattle.amo_driver.specs.declared.answer.JobResult.{JobResult}
use Rattle.amo_driver.specs.declared.answer.Reply.TheVariants.{Answered}
use Rattle.amo_driver.specs.declared.answer.Way.{Way}
use Rattle.amo_host.specs.declared.model.RunLock.TheVariants.{Guard}
use Rattle.amo_host.specs.Calls.{Tried as WorkerTried, Heard}
use Rattle.amo_runner_protocol.specs.Lines.{reply_heard}
use Rattle.amo_run_log.specs.declared.finding.Finding.{Finding}
use Rattle.amo_run_log.specs.declared.finding.Resolution.TheVariants.{NotDone}
use Rattle.amo_run_log.specs.Findings.{FitsFinding}
use Rattle.amo_operator.specs.declared.model.OperatorLock.TheVariants.{Journal, Runner, Command as CommandLock}
use Rattle.amo_operator.specs.Calls.{Request, PutDoubt, PutAnswer, Call, Tried, LogIs, Recovered, HasPutDoubt, HasPutAnswer, request_of}
use Rattle.amo_operator.specs.Protocol.{Allows}
use Rattle.amo_program_safety.specs.World.{Process, Event, Doubts, Resolves, Recovers, Calls as WorkerCalls}
use Rattle.amo_program_safety.specs.Runs.{AreRead, IsNamed, IsUntouched, MayFollow as MayCome}
use Rattle.amo_program_safety.specs.Machine.{Operator, Machine, Step, Happens, Begins, Exits, Drops, Enters, Records, Calls, Dies, machine_after, first_machine}
use Rattle.amo_program_safety.specs.Finality.{HasEndedHere}

-- A worker's process gets the lock on a journal only if no operator's command has this lock.
abbrev pub LockIsFree : Machine → Event → Type 0
LockIsFree m (WorkerCalls process (WorkerTried (Guard worker) hold true)) = m.held worker ≡ None
LockIsFree m e = ⊤

-- The event is not one of operators' commands, which have steps of their own.
abbrev pub IsOfNoCommand : Event → Type 0
IsOfNoCommand (Doubts worker serial time) = ⊥
IsOfNoCommand (Resolves f) = ⊥
IsOfNoCommand (Recovers log more) = ⊥
IsOfNoCommand e = ⊤

-- An operator answers `not-done` only if nothing of the attempt is left or under way, and the
-- attempt has not performed its line.
abbrev pub IsTruthful : Machine → Finding → Type 0
IsTruthful m f = f.verdict ≡ NotDone → IsUntouched m.world f.worker f.serial

-- A command may append a doubt or a truthful answer. The numbers have at most 64 bits, as the types
-- of the code ensure.
abbrev pub MayRecord : Machine → Request → Type 0
MayRecord m (PutDoubt attempt time) = (attempt.serial < 2 ^ 64) × (time < 2 ^ 64)
MayRecord m (PutAnswer f) = FitsFinding f × IsTruthful m f
MayRecord m r = ⊥

-- The results that a call of an operator's command may have. The command gets the lock on a journal
-- only if no process has that lock. It gets the lock of a runner only if the runner has no attempt
-- whose command it may still start. It gets the lock of an attempt's command only if nothing of that
-- command is left on this machine. It learns that its append is on the disk only after the append
-- was written.
abbrev pub MachineGives : Machine → Operator → Call → Type 0
MachineGives m o (Tried (Journal worker) true) = (m.world.guard worker ≡ None) × (m.held worker ≡ None)
MachineGives m o (Tried (Runner worker) true) = (h : Handing) → IsOneOf m.waiting h → h.worker ≡ worker → ⊥
MachineGives m o (Tried (CommandLock worker serial) true) = (h : Handing) → IsOneOf m.running h → IsNamed worker serial h → ⊥
MachineGives m o (LogIs log last texts) = AreRead (m.world.logs log) texts
MachineGives m o (Recovered log last texts) = AreRead (m.world.logs log) texts
MachineGives m o (HasPutDoubt attempt time) = o.writes ≡ Some (PutDoubt attempt time)
MachineGives m o (HasPutAnswer f) = o.writes ≡ Some (PutAnswer f)
MachineGives m o c = ⊤

-- A call with the request r may end. If the operator's command has written the append of a request
-- in a call that has not ended, this request is r.
abbrev pub IsItsCall : (writes : Option Request) → Request → Type 0
IsItsCall None r = ⊤
IsItsCall (Some written) r = written ≡ r

-- This operator's command lives, and its phase allows this request.
abbrev pub MayRequest : Machine → (process : ℕ) → Operator → Request → Type 0
MayRequest m process o r = (m.operator process ≡ Some o) × Allows o.phase r

-- This step may come next on this machine. It keeps the protocols of workers and operators'
-- commands, and the rules for the kernel, the disk, the runners and the operators.
abbrev pub MayFollow : Machine → Step → Type 0
MayFollow m (Happens e) = MayCome m.world e × LockIsFree m e × IsOfNoCommand e
MayFollow m (Begins h) = IsOneOf m.waiting h
MayFollow m (Exits h) = ⊤
MayFollow m (Drops h) = ⊤
MayFollow m (Enters process command) = m.operator process ≡ None
MayFollow m (Records process r) = (o : Operator) × MayRequest m process o r × (o.writes ≡ None) × MayRecord m r
MayFollow m (Calls process c) = (o : Operator) × MayRequest m process o (request_of c) × IsItsCall o.writes (request_of c) × MachineGives m o c
MayFollow m (Dies process) = ⊤

-- A list of steps that may be taken one after the other, from this machine on.
abbrev pub IsRunFrom : Machine → List Step → Type 0
IsRunFrom m [] = ⊤
IsRunFrom m (s ∷ steps) = MayFollow m s × IsRunFrom (machine_after m s) steps

-- The machine to which these steps lead from the machine m.
abbrev pub machine_from : Machine → List Step → Machine
machine_from m [] = m
machine_from m (s ∷ steps) = machine_from (machine_after m s) steps

-- A run: a list of steps that may be taken one after the other, from the first machine on.
abbrev pub IsRun : List Step → Type 0
IsRun steps = IsRunFrom first_machine steps

-- The machine after these steps, from the first machine on.
abbrev pub machine_of : List Step → Machine
machine_of steps = machine_from first_machine steps

-- None of these events is of an operator's command.
abbrev pub AreOfNoCommand : List Event → Type 0
AreOfNoCommand [] = ⊤
AreOfNoCommand (e ∷ es) = IsOfNoCommand e × AreOfNoCommand es

-- ---- a rule for runners that only some theorems assume

-- A runner reports an outcome of an attempt only after the attempt has ended. Then the runner will
-- not start the command of the attempt, and nothing of that command is left on this machine.
abbrev pub RunnerHasEnded : Machine → Event → Type 0
RunnerHasEnded m (WorkerCalls process (Heard line reply)) =
    (p : Process) → m.world.process process ≡ Some p → (serial : ℕ) (result : JobResult) (way : Way) → reply_heard reply ≡ Answered serial result way
    → HasEndedHere m p.worker serial
RunnerHasEnded m e = ⊤

-- Runners keep this rule in this step.
abbrev pub RunnerEnds : Machine → Step → Type 0
RunnerEnds m (Happens e) = RunnerHasEnded m e
RunnerEnds m s = ⊤

-- Runners keep this rule in all of these steps, from this machine on.
abbrev pub RunnersEndFrom : Machine → List Step → Type 0
RunnersEndFrom m [] = ⊤
RunnersEndFrom m (s ∷ steps) = RunnerEnds m s × RunnersEndFrom (machine_after m s) steps

-- Runners keep this rule in a run of these steps.
abbrev pub RunnersEnd : List Step → Type 0
RunnersEnd steps = RunnersEndFrom first_machine steps
