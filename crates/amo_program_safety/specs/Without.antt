-- Which runs there are if one of our premises fails.
use Rattle.std.specs.Prelude.{◌≡◌, ⊤, ℕ, true, List, [], ◌∷◌, Some, None}
use Rattle.amo_safety_by_journals.specs.Model.{Handing, IsOneOf, line_of}
use Rattle.amo_driver.specs.declared.answer.JobResult.TheVariants.{Unbegun}
use Rattle.amo_driver.specs.declared.answer.Reply.TheVariants.{Answered}
use Rattle.amo_driver.specs.declared.answer.Way.{Way}
use Rattle.amo_host.specs.declared.model.LogFile.{LogFile}
use Rattle.amo_host.specs.declared.model.LogFile.TheVariants.{Journal}
use Rattle.amo_host.specs.declared.model.RunLock.TheVariants.{Guard}
use Rattle.amo_host.specs.Calls.{Call, Tried, Recovered, LogIs, HasRead, HasPut, HasPaid, Heard, Say, request_of}
use Rattle.amo_runner_protocol.specs.Lines.{reply_heard}
use Rattle.amo_runner_protocol.specs.Sayings.{perform_text}
use Rattle.amo_run_log.specs.declared.finding.Finding.{Finding}
use Rattle.amo_run_log.specs.declared.finding.Resolution.TheVariants.{NotDone}
use Rattle.amo_run_log.specs.Findings.{FitsFinding}
use Rattle.amo_program_safety.specs.Texts.{lines_in}
use Rattle.amo_program_safety.specs.World.{Process, World, Event, HandsOver, Calls, Performs, Resolves, Recovers, world_after}
use Rattle.amo_program_safety.specs.Runs.{IsFirst, IsItsCall, IsNamed, IsUnlocked, KernelGives, MayFollow, MayRequest, RunnerGives, first_world, held_in}

-- We assume these of the kernel and the disk, of runners, and of operators.
pub data Premise : Type 0 where
  -- A lock on a journal is got if nobody has it.
  LocksExclude : Premise
  -- A read of a log gives all appends that are kept.
  ReadsAreCurrent : Premise
  -- A recovery of a journal gives all appends that are kept.
  AppendsAreKept : Premise
  -- A process learns that an append is on the disk only after it was written.
  AppendsAreWritten : Premise
  -- A command recovers a journal only while no process of the worker lives.
  CommandsLock : Premise
  -- A runner says that an attempt was not started only if it has not begun, and never will.
  RunnersAreHonest : Premise
  -- The first part of `RunnersAreHonest`: nothing of the attempt is left or under way.
  LiveAreNotDenied : Premise
  -- The second part: the attempt has not performed its line.
  PerformedAreNotDenied : Premise
  -- A line that is said comes to the runner once.
  LinesComeOnce : Premise
  -- An attempt performs its line at most once.
  AttemptsPerformOnce : Premise
  -- An operator answers `not-done` only to attempts that are over.
  OperatorsAreTruthful : Premise
  -- The first part of `OperatorsAreTruthful`: the intent of the attempt is on the disk.
  AnswersFollowIntents : Premise
  -- The second part: no process has the attempt in hand that has not handed it over.
  HeldAreNotAnswered : Premise
  -- The third part: nothing of the attempt is left or under way.
  LiveAreNotAnswered : Premise
  -- The fourth part: the attempt has not performed its line.
  PerformedAreNotAnswered : Premise

-- The kernel may let this come of a call, without this premise.
abbrev pub KernelGivesWithout : Premise → World → Process → Call → Type 0
KernelGivesWithout LocksExclude w p (Tried (Guard worker) hold true) = ⊤
KernelGivesWithout ReadsAreCurrent w p (LogIs log last texts counted) = ⊤
KernelGivesWithout ReadsAreCurrent w p (HasRead log texts) = ⊤
KernelGivesWithout AppendsAreKept w p (Recovered last texts) = ⊤
KernelGivesWithout AppendsAreWritten w p (HasPut entry) = ⊤
KernelGivesWithout AppendsAreWritten w p HasPaid = ⊤
KernelGivesWithout premise w p c = KernelGives w p c

-- A runner may do this when a call of its worker ends.
abbrev pub RunnerGivesWithout : Premise → World → (worker : ℕ) → Call → Type 0
RunnerGivesWithout RunnersAreHonest w worker c = ⊤
RunnerGivesWithout LiveAreNotDenied w worker (Heard line reply) =
    (serial : ℕ) (way : Way) → reply_heard reply ≡ Answered serial Unbegun way → (h : Handing) → IsOneOf w.performed h → IsNamed worker serial h → ⊥
RunnerGivesWithout PerformedAreNotDenied w worker (Heard line reply) =
    (serial : ℕ) (way : Way) → reply_heard reply ≡ Answered serial Unbegun way → (h : Handing) → IsOneOf w.alive h → IsNamed worker serial h → ⊥
RunnerGivesWithout premise w worker c = RunnerGives w worker c

-- An attempt may perform its line, without this premise.
abbrev pub MayPerformWithout : Premise → World → Handing → Type 0
MayPerformWithout AttemptsPerformOnce w h = ⊤
MayPerformWithout premise w h = IsOneOf w.performed h → ⊥

-- The four parts, of the attempt of this worker and serial number.
abbrev pub IsKeptWithout : Premise → World → (worker serial : ℕ) → Type 0
IsKeptWithout AnswersFollowIntents w worker serial = ⊤
IsKeptWithout premise w worker serial = (line : ℕ) × (line_of (lines_in (w.logs (Journal worker)).kept) serial ≡ Some line)

-- No process is about to hand this attempt over, unless this premise is left out.
abbrev pub IsNotHeldWithout : Premise → World → (worker serial : ℕ) → Type 0
IsNotHeldWithout HeldAreNotAnswered w worker serial = ⊤
IsNotHeldWithout premise w worker serial =
    (process : ℕ) (p : Process) → w.process process ≡ Some p → p.worker ≡ worker → p.writes ≡ None → held_in p.phase ≡ Some serial
    → (h : Handing) × IsOneOf w.handed h × IsNamed worker serial h

-- No runner has this attempt, unless this premise is left out.
abbrev pub IsNotAliveWithout : Premise → World → (worker serial : ℕ) → Type 0
IsNotAliveWithout LiveAreNotAnswered w worker serial = ⊤
IsNotAliveWithout premise w worker serial = (h : Handing) → IsOneOf w.alive h → IsNamed worker serial h → ⊥

-- This attempt has not performed its line, unless this premise is left out.
abbrev pub IsNotPerformedWithout : Premise → World → (worker serial : ℕ) → Type 0
IsNotPerformedWithout PerformedAreNotAnswered w worker serial = ⊤
IsNotPerformedWithout premise w worker serial = (h : Handing) → IsOneOf w.performed h → IsNamed worker serial h → ⊥

-- An attempt may be answered with `not-done`, without this premise.
pub record IsOverWithout (premise : Premise) (w : World) (worker serial : ℕ) : Type 0 where
  pub kept : IsKeptWithout premise w worker serial
  pub not_held : IsNotHeldWithout premise w worker serial
  pub not_alive : IsNotAliveWithout premise w worker serial
  pub not_performed : IsNotPerformedWithout premise w worker serial

-- An operator may write this answer.
abbrev pub OperatorMaySayWithout : Premise → World → Finding → Type 0
OperatorMaySayWithout OperatorsAreTruthful w f = ⊤
OperatorMaySayWithout premise w f = f.verdict ≡ NotDone → IsOverWithout premise w f.worker f.serial

-- Whether a command may recover a log.
abbrev pub MayRecoverWithout : Premise → World → LogFile → Type 0
MayRecoverWithout CommandsLock w log = ⊤
MayRecoverWithout premise w log = IsUnlocked w log

-- A line may come to the runner, without this premise.
abbrev pub IsFirstWithout : Premise → World → (worker serial : ℕ) → Type 0
IsFirstWithout LinesComeOnce w worker serial = ⊤
IsFirstWithout premise w worker serial = IsFirst w worker serial

-- Whether an event may come next, without this premise.
abbrev pub MayFollowWithout : Premise → World → Event → Type 0
MayFollowWithout premise w (HandsOver process serial line text) =
    (p : Process) × MayRequest w process p (Say (perform_text serial line text)) × IsFirstWithout premise w p.worker serial
MayFollowWithout premise w (Calls process c) =
    (p : Process) × MayRequest w process p (request_of c) × IsItsCall p.writes (request_of c) × KernelGivesWithout premise w p c × RunnerGivesWithout premise w p.worker c
MayFollowWithout premise w (Performs h) = IsOneOf w.alive h × MayPerformWithout premise w h
MayFollowWithout premise w (Resolves f) = FitsFinding f × OperatorMaySayWithout premise w f
MayFollowWithout premise w (Recovers log more) = MayRecoverWithout premise w log
MayFollowWithout premise w e = MayFollow w e

-- Each event may come next, from a world on.
abbrev pub IsRunFromWithout : Premise → World → List Event → Type 0
IsRunFromWithout premise w [] = ⊤
IsRunFromWithout premise w (e ∷ es) = MayFollowWithout premise w e × IsRunFromWithout premise (world_after w e) es

-- A run of processes of this protocol, without this premise.
abbrev pub IsRunWithout : Premise → List Event → Type 0
IsRunWithout premise es = IsRunFromWithout premise first_world es
