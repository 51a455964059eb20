-- A world: one machine with the processes of the workers of one run. It has the phases of the
-- processes, the logs on the disk, the locks on journals, and the attempts that were handed over to
-- runners.
use Rattle.std.specs.Prelude.{ℕ, ◌+◌, Bool, true, false, List, [], ◌∷◌, ◌++◌, take, drop, Option, Some, None, option_map, ◌==◌, if◌then◌else◌}
use Rattle.amo_safety_by_journals.specs.Model.{Handing, with_at}
use Rattle.amo_host.specs.declared.model.LogFile.{LogFile}
use Rattle.amo_host.specs.declared.model.LogFile.TheVariants.{Answers, Journal}
use Rattle.amo_host.specs.declared.model.RunLock.TheVariants.{Guard}
use Rattle.amo_host.specs.Calls.{Request, Put, Pay, Call, Tried, Recovered, LogIs, HasRead, HasPut, HasOwed, HasPaid}
use Rattle.amo_host.specs.Phase.{Phase, Starts as Starting, Unborn}
use Rattle.amo_host.specs.Protocol.{phase_after}
use Rattle.amo_run_log.specs.declared.append.Append.TheVariants.{One}
use Rattle.amo_run_log.specs.declared.entry.Entry.{Entry}
use Rattle.amo_run_log.specs.declared.entry.Entry.TheVariants.{Answer as Answered}
use Rattle.amo_run_log.specs.declared.entry.Outcome.TheVariants.{Doubt}
use Rattle.amo_run_log.specs.declared.finding.Finding.{Finding}
use Rattle.amo_run_log.specs.Entries.{text_of_append}
use Rattle.amo_run_log.specs.Findings.{text_of_finding}
use Rattle.amo_program_safety.specs.Texts.{append_of}

-- A log on the disk, given by the texts of its appends in their order.
pub record Log : Type 0 where
  -- The appends that every stop of the machine leaves.
  pub kept : List (List ℕ)
  -- The appends after the kept ones. No process has learned that they are on the disk. A stop of the machine may take some of them from the end.
  pub rest : List (List ℕ)

-- A process of a worker.
pub record Process : Type 0 where
  pub worker : ℕ
  -- The phase of the process after all calls that it has made.
  pub phase : Phase
  -- The request of the call that the process is in, if the append of this request is already written.
  pub writes : Option Request
  -- The entry that the process owes its journal, if it owes one.
  pub owed : Option Entry
  -- The appends that the process has read of each log. A later read of the log goes on after them.
  pub read : LogFile → List (List ℕ)

-- The state of a run: its logs, the living processes of workers with their locks, and the attempts
-- that were handed over.
pub record World : Type 0 where
  pub logs : LogFile → Log
  -- The living processes, by their process ids.
  pub process : ℕ → Option Process
  -- For each worker, the process that has the lock on the worker's journal, if there is one.
  pub guard : ℕ → Option ℕ
  -- The attempts that were handed over to runners.
  pub handed : List Handing
  -- The attempts that were handed over and are not over: a runner has the attempt, its command runs, or a request of it is under way.
  pub alive : List Handing
  -- The attempts by which lines were performed, the last one first.
  pub performed : List Handing

-- An event: the next thing that happens in a world. Processes are given by their process ids, and
-- journals by the numbers of their workers.
pub data Event : Type 0 where
  -- A process of this worker starts.
  Starts : (process worker : ℕ) → Event
  -- The process is in a call with this request, and the append of the request is written. Other processes may read the append from now on.
  Writes : (process : ℕ) → Request → Event
  -- The process asks its runner to perform this line, which has this text. The runner has the attempt of this serial number from now on.
  HandsOver : (process serial line : ℕ) → (text : List ℕ) → Event
  -- A call of the process ends, and the process learns its result.
  Calls : (process : ℕ) → Call → Event
  -- The process dies, in a call or between two calls.
  Dies : (process : ℕ) → Event
  -- The machine stops, and all processes die. Each log keeps its kept appends. Of its other appends only the first ones stay, as many as `left`
  -- states for the log.
  Stops : (left : LogFile → ℕ) → Event
  -- The line of this attempt is performed.
  Performs : Handing → Event
  -- The attempt at this position in the list `alive` is over. Positions begin at 0.
  Ends : ℕ → Event
  -- An operator's command writes to the journal of this worker that the attempt of this serial number is in doubt.
  Doubts : (worker serial time : ℕ) → Event
  -- An operator's command writes this answer to the log of answers.
  Resolves : Finding → Event
  -- An operator's command recovers this log, or syncs an append that it has written. The first `more` of the appends that were not kept are kept from
  -- now on, and the others are gone.
  Recovers : (log : LogFile) → (more : ℕ) → Event

-- True if both logs are the same log.
abbrev pub is_log : LogFile → LogFile → Bool
is_log Answers Answers = true
is_log Answers (Journal worker) = false
is_log (Journal worker) Answers = false
is_log (Journal worker) (Journal other) = other == worker

-- The function `all` with the value x at this log, and with its old values at the other logs.
abbrev pub with_log : {A : Type 0} → (LogFile → A) → LogFile → A → LogFile → A
with_log all log x other = if is_log log other then x else all other

-- The log with one more append. No process has learned that this append is on the disk.
abbrev pub with_append : Log → List ℕ → Log
with_append log text = record log { rest = log.rest ++ text ∷ [] }

-- The log with one more append, or the unchanged log if there is no append.
abbrev pub with_append_if : Log → Option (List ℕ) → Log
with_append_if log None = log
with_append_if log (Some text) = with_append log text

-- The log after a recovery. The first `more` of the appends that were not kept are kept now, and
-- the others are gone.
abbrev pub recovered : Log → (more : ℕ) → Log
recovered log more = record { kept = log.kept ++ take more log.rest; rest = [] }

-- The log after a sync: all its appends are kept.
abbrev pub synced : Log → Log
synced log = record { kept = log.kept ++ log.rest; rest = [] }

-- The text of an append that has only the owed entry, if an entry is owed.
abbrev pub owed_text : (owed : Option Entry) → Option (List ℕ)
owed_text owed = option_map (λ entry. text_of_append (One entry)) owed

-- The text that a request appends to the journal of its process, if it appends one.
abbrev pub text_by : (owed : Option Entry) → Request → Option (List ℕ)
text_by owed (Put entry) = Some (text_of_append (append_of owed entry))
text_by owed Pay = owed_text owed
text_by owed r = None

-- The journal of a process after a call. Recovery keeps the texts that it has read. A successful
-- `Put` or `Pay` syncs the journal, but `Pay` syncs nothing if no entry is owed.
abbrev pub journal_by : Log → (owed : Option Entry) → Call → Log
journal_by log owed (Recovered last texts) = record { kept = texts; rest = [] }
journal_by log owed (HasPut entry) = synced log
journal_by log None HasPaid = log
journal_by log (Some entry) HasPaid = synced log
journal_by log owed c = log

-- The entry that a process owes its journal after a call, if it owes one.
abbrev pub owed_by : Option Entry → Call → Option Entry
owed_by owed (HasOwed entry) = Some entry
owed_by owed (HasPut entry) = None
owed_by owed HasPaid = None
owed_by owed c = owed

-- The appends that a process has read of each log, after a call.
abbrev pub read_by : (LogFile → List (List ℕ)) → Call → LogFile → List (List ℕ)
read_by read (LogIs log last texts counted) = with_log read log (read log ++ texts)
read_by read (HasRead log texts) = with_log read log (read log ++ texts)
read_by read c = read

-- The process after this call.
abbrev pub process_by : Process → Call → Process
process_by p c = record { worker = p.worker; phase = phase_after p.phase c; writes = None; owed = owed_by p.owed c; read = read_by p.read c }

-- For each worker, the process that has the lock on the worker's journal, after a call of this
-- process.
abbrev pub guard_by : (ℕ → Option ℕ) → (process : ℕ) → Call → ℕ → Option ℕ
guard_by guard process (Tried (Guard worker) hold true) = with_at guard worker (Some process)
guard_by guard process c = guard

-- The world after a call of this process. If no such process lives, the world stays as it is.
abbrev pub called : World → (process : ℕ) → Option Process → Call → World
called w process None c = w
called w process (Some p) c = record w {
  logs = with_log w.logs (Journal p.worker) (journal_by (w.logs (Journal p.worker)) p.owed c);
  process = with_at w.process process (Some (process_by p c));
  guard = guard_by w.guard process c;
}

-- The world after this process has written the append of a request. If no such process lives, the
-- world stays as it is.
abbrev pub written : World → (process : ℕ) → Option Process → Request → World
written w process None r = w
written w process (Some p) r = record w {
  logs = with_log w.logs (Journal p.worker) (with_append_if (w.logs (Journal p.worker)) (text_by p.owed r));
  process = with_at w.process process (Some (record p { writes = Some r }));
}

-- The list of the attempt that a process hands over, with this serial number and line. The list is
-- empty if the process doesn't live.
abbrev pub handing_of : Option Process → (serial line : ℕ) → List Handing
handing_of None serial line = []
handing_of (Some p) serial line = record { worker = p.worker; serial = serial; line = line } ∷ []

-- The holder of a lock after this process has unlocked it or has died. Any other holder keeps the
-- lock.
abbrev pub freed : Option ℕ → (process : ℕ) → Option ℕ
freed None process = None
freed (Some holder) process = if holder == process then None else Some holder

-- A process of this worker that has made no call yet.
abbrev pub new_process : (worker : ℕ) → Process
new_process worker = record { worker = worker; phase = Starting worker Unborn; writes = None; owed = None; read = λ log. [] }

-- The world after this event.
abbrev pub world_after : World → Event → World
world_after w (Starts process worker) = record w { process = with_at w.process process (Some (new_process worker)) }
world_after w (Writes process r) = written w process (w.process process) r
world_after w (HandsOver process serial line text) = record w {
  handed = handing_of (w.process process) serial line ++ w.handed;
  alive = handing_of (w.process process) serial line ++ w.alive;
}
world_after w (Calls process c) = called w process (w.process process) c
world_after w (Dies process) = record w { process = with_at w.process process None; guard = λ worker. freed (w.guard worker) process }
world_after w (Stops left) = record w {
  logs = λ log. record { kept = (w.logs log).kept; rest = take (left log) (w.logs log).rest };
  process = λ process. None;
  guard = λ worker. None;
}
world_after w (Performs h) = record w { performed = h ∷ w.performed }
world_after w (Ends i) = record w { alive = take i w.alive ++ drop (i + 1) w.alive }
world_after w (Doubts worker serial time) = record w {
  logs = with_log w.logs (Journal worker) (with_append (w.logs (Journal worker)) (text_of_append (One (Answered serial (Doubt time)))));
}
world_after w (Resolves f) = record w { logs = with_log w.logs Answers (with_append (w.logs Answers) (text_of_finding f)) }
world_after w (Recovers log more) = record w { logs = with_log w.logs log (recovered (w.logs log) more) }
