-- The runs of a world. They are limited by the protocol of the processes, and by rules for the
-- kernel, the disk, the runners and the operators.
use Rattle.std.specs.Prelude.{◌≡◌, ⊤, ℕ, ◌≤◌, ◌<◌, ◌^◌, true, List, [], ◌∷◌, ◌++◌, take, Option, Some, None}
use Rattle.amo_safety_by_journals.specs.Model.{Handing, IsOneOf, line_of}
use Rattle.amo_driver.specs.Stage.{Stage, Clearing, Performing}
use Rattle.amo_driver.specs.declared.answer.JobResult.TheVariants.{Unbegun}
use Rattle.amo_driver.specs.declared.answer.Reply.TheVariants.{Answered}
use Rattle.amo_driver.specs.declared.answer.Way.{Way}
use Rattle.amo_params.specs.declared.limits.TheConstants.{MAX_WORKERS}
use Rattle.amo_host.specs.declared.model.LogFile.{LogFile}
use Rattle.amo_host.specs.declared.model.LogFile.TheVariants.{Answers, Journal}
use Rattle.amo_host.specs.declared.model.RunLock.TheVariants.{Guard}
use Rattle.amo_host.specs.Calls.{Request, Say, Put, Pay, Call, Tried, Recovered, LogIs, HasRead, HasPut, HasPaid, Heard, request_of}
use Rattle.amo_host.specs.Phase.{Phase, Works, Clears}
use Rattle.amo_host.specs.Protocol.{Allows}
use Rattle.amo_runner_protocol.specs.Lines.{reply_heard}
use Rattle.amo_runner_protocol.specs.Sayings.{perform_text}
use Rattle.amo_run_log.specs.declared.entry.Entry.{Entry}
use Rattle.amo_run_log.specs.declared.finding.Finding.{Finding}
use Rattle.amo_run_log.specs.declared.finding.Resolution.TheVariants.{NotDone}
use Rattle.amo_run_log.specs.Entries.{Fits, FitsAppend}
use Rattle.amo_run_log.specs.Findings.{FitsFinding}
use Rattle.amo_program_safety.specs.Texts.{append_of, lines_in}
use Rattle.amo_program_safety.specs.World.{Log, Process, World, Event, Starts, Writes, HandsOver, Calls, Dies, Stops, Performs, Ends, Doubts, Resolves, Recovers, text_by, world_after}

-- ---- the kernel and the disk

-- A read of this log may give these texts: all kept appends, followed by the first `more` of the
-- other appends, for any number `more`.
abbrev pub AreRead : Log → List (List ℕ) → Type 0
AreRead log texts = (more : ℕ) × (texts ≡ log.kept ++ take more log.rest)

-- If an entry is owed, each number in it has at most 64 bits.
abbrev pub FitsOwed : Option Entry → Type 0
FitsOwed None = ⊤
FitsOwed (Some entry) = Fits entry

-- Each number that this request appends has at most 64 bits, as the types of the code ensure.
abbrev pub FitsRequest : (owed : Option Entry) → Request → Type 0
FitsRequest owed (Put entry) = FitsAppend (append_of owed entry)
FitsRequest owed Pay = FitsOwed owed
FitsRequest owed r = ⊤

-- If an entry is owed, the process has written it in its present call of `Pay`.
abbrev pub IsWritten : (owed : Option Entry) → (writes : Option Request) → Type 0
IsWritten None writes = ⊤
IsWritten (Some entry) writes = writes ≡ Some Pay

-- The results that a call of a process may have. A process gets the lock on a journal only if no
-- process has that lock. The texts that a process has read of a log, followed by the new texts, are
-- a read of that log. A process learns that its append is on the disk only after the append was
-- written.
abbrev pub KernelGives : World → Process → Call → Type 0
KernelGives w p (Tried (Guard worker) hold true) = w.guard worker ≡ None
KernelGives w p (Recovered last texts) = AreRead (w.logs (Journal p.worker)) texts
KernelGives w p (LogIs log last texts counted) = AreRead (w.logs log) (p.read log ++ texts)
KernelGives w p (HasRead log texts) = AreRead (w.logs log) (p.read log ++ texts)
KernelGives w p (HasPut entry) = p.writes ≡ Some (Put entry)
KernelGives w p HasPaid = IsWritten p.owed p.writes
KernelGives w p c = ⊤

-- A call with the request r may end. If the process has written the append of a request in a call
-- that has not ended, this request is r.
abbrev pub IsItsCall : (writes : Option Request) → Request → Type 0
IsItsCall None r = ⊤
IsItsCall (Some written) r = written ≡ r

-- ---- the runners

-- The attempt has this worker and this serial number.
abbrev pub IsNamed : (worker serial : ℕ) → Handing → Type 0
IsNamed worker serial h = (h.worker ≡ worker) × (h.serial ≡ serial)

-- Nothing of the attempt is left: no runner has it, no command of it runs, and no request of it is
-- under way. The attempt has not performed its line.
pub record IsUntouched (w : World) (worker serial : ℕ) : Type 0 where
  pub not_alive : (h : Handing) → IsOneOf w.alive h → IsNamed worker serial h → ⊥
  pub not_performed : (h : Handing) → IsOneOf w.performed h → IsNamed worker serial h → ⊥

-- A runner replies that an attempt was not started only if nothing of the attempt is left or under
-- way, and the attempt has not performed its line.
abbrev pub RunnerMayReply : World → (worker : ℕ) → (reply : Option (List ℕ)) → Type 0
RunnerMayReply w worker reply = (serial : ℕ) (way : Way) → reply_heard reply ≡ Answered serial Unbegun way → IsUntouched w worker serial

-- The results that a runner may give to a call of its worker. Only its replies are restricted.
abbrev pub RunnerGives : World → (worker : ℕ) → Call → Type 0
RunnerGives w worker (Heard line reply) = RunnerMayReply w worker reply
RunnerGives w worker c = ⊤

-- No attempt of this worker and this serial number was handed over before, by any process. We
-- assume that the runner receives a request to perform each attempt at most once.
abbrev pub IsFirst : World → (worker serial : ℕ) → Type 0
IsFirst w worker serial = (h : Handing) → IsOneOf w.handed h → IsNamed worker serial h → ⊥

-- ---- the operators

-- The serial number of the attempt that a process has in hand at this stage, if the stage has one.
abbrev pub held_at : Stage → Option ℕ
held_at (Clearing serial a job) = Some serial
held_at (Performing serial a job) = Some serial
held_at stage = None

-- The serial number of the attempt that a process may still hand over in this phase, if there is
-- one.
abbrev pub held_in : Phase → Option ℕ
held_in (Works me jobs stage owes logs) = held_at stage
held_in (Clears me jobs serial a job logs left) = Some serial
held_in phase = None

-- The attempt is over, and may be answered with `not-done`. Its intent is kept on the disk. A
-- process that has the attempt in hand has handed it over, or has written an append in a call that
-- has not ended. In that append the process gives the attempt up, as not started. Nothing of the
-- attempt is left or under way, and the attempt has not performed its line.
pub record IsOver (w : World) (worker serial : ℕ) : Type 0 where
  pub kept : (line : ℕ) × (line_of (lines_in (w.logs (Journal worker)).kept) serial ≡ Some line)
  pub not_held : (process : ℕ) (p : Process) → w.process process ≡ Some p → p.worker ≡ worker → p.writes ≡ None → held_in p.phase ≡ Some serial
      → (h : Handing) × IsOneOf w.handed h × IsNamed worker serial h
  pub untouched : IsUntouched w worker serial

-- An operator answers `not-done` to an attempt only if the attempt is over.
abbrev pub OperatorMaySay : World → Finding → Type 0
OperatorMaySay w f = f.verdict ≡ NotDone → IsOver w f.worker f.serial

-- ---- runs

-- This process lives, and its phase allows this request.
abbrev pub MayRequest : World → (process : ℕ) → Process → Request → Type 0
MayRequest w process p r = (w.process process ≡ Some p) × Allows p.phase r

-- No process has the lock on this log. The log of answers has no lock in a world.
abbrev pub IsUnlocked : World → LogFile → Type 0
IsUnlocked w Answers = ⊤
IsUnlocked w (Journal worker) = w.guard worker ≡ None

-- This event may come next in this world. It keeps the protocol of the processes, and the rules for
-- the kernel, the disk, the runners and the operators.
abbrev pub MayFollow : World → Event → Type 0
MayFollow w (Starts process worker) = (w.process process ≡ None) × (1 ≤ worker) × (worker ≤ MAX_WORKERS)
MayFollow w (Writes process r) =
    (p : Process) × MayRequest w process p r × (p.writes ≡ None) × FitsRequest p.owed r × (text : List ℕ) × (text_by p.owed r ≡ Some text)
MayFollow w (HandsOver process serial line text) =
    (p : Process) × MayRequest w process p (Say (perform_text serial line text)) × IsFirst w p.worker serial
MayFollow w (Calls process c) =
    (p : Process) × MayRequest w process p (request_of c) × IsItsCall p.writes (request_of c) × KernelGives w p c × RunnerGives w p.worker c
MayFollow w (Dies process) = ⊤
MayFollow w (Stops left) = ⊤
MayFollow w (Performs h) = IsOneOf w.alive h × (IsOneOf w.performed h → ⊥)
MayFollow w (Ends i) = ⊤
MayFollow w (Doubts worker serial time) =
    (w.guard worker ≡ None) × (serial < 2 ^ 64) × (time < 2 ^ 64) × ((line : ℕ) × (line_of (lines_in (w.logs (Journal worker)).kept) serial ≡ Some line))
MayFollow w (Resolves f) = FitsFinding f × OperatorMaySay w f
MayFollow w (Recovers log more) = IsUnlocked w log

-- A list of events that may happen one after the other, from this world on.
abbrev pub IsRunFrom : World → List Event → Type 0
IsRunFrom w [] = ⊤
IsRunFrom w (e ∷ es) = MayFollow w e × IsRunFrom (world_after w e) es

-- The world to which these events lead from the world w.
abbrev pub world_from : World → List Event → World
world_from w [] = w
world_from w (e ∷ es) = world_from (world_after w e) es

-- The world before the first event: all logs are empty, and no process lives.
abbrev pub first_world : World
first_world = record { logs = λ log. record { kept = []; rest = [] }; process = λ process. None; guard = λ worker. None; handed = []; alive = []; performed = [] }

-- A run: a list of events that may happen one after the other, from the first world on.
abbrev pub IsRun : List Event → Type 0
IsRun es = IsRunFrom first_world es

-- The world after these events, from the first world on.
abbrev pub world_of : List Event → World
world_of es = world_from first_world es
