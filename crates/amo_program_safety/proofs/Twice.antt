-- Runs in which a line is performed twice, since a premise is left out.
use Rattle.std.proofs.Common.{◌≡◌, inl, ℕ, true, false, List, [], ◌∷◌, ◌++◌, map, Option, Some, None, refl}
use Rattle.std.specs.Fmt.{digits}
use Rattle.std.specs.Prelude.{codes, is_none}
use Rattle.amo_safety_by_journals.specs.Model.{Handing, IsOneOf}
use Rattle.amo_host.specs.declared.model.Hold.TheVariants.{Exclusive}
use Rattle.amo_host.specs.declared.model.LogFile.{LogFile}
use Rattle.amo_host.specs.declared.model.LogFile.TheVariants.{Journal}
use Rattle.amo_host.specs.declared.model.RunLock.TheVariants.{Guard}
use Rattle.amo_host.specs.Calls.{Call, Tried, Recovered, LogIs, HasRead, HasPut, HasPaid, Heard, request_of}
use Rattle.amo_runner_protocol.specs.Sayings.{perform_text}
use Rattle.amo_run_log.specs.declared.entry.Entry.TheVariants.{Intent}
use Rattle.amo_run_log.specs.declared.finding.Finding.{Finding}
use Rattle.amo_program_safety.specs.World.{Process, World, new_process, Event, HandsOver, Calls, Performs, Resolves, Recovers, world_after}
use Rattle.amo_program_safety.specs.Runs.{IsFirst, IsItsCall, IsOver, IsRunFrom, IsUnlocked, KernelGives, OperatorMaySay, MayFollow, RunnerGives, first_world, world_from, world_of}
use Rattle.amo_program_safety.specs.Without.{Premise, LocksExclude, ReadsAreCurrent, AppendsAreKept, AppendsAreWritten, CommandsLock, RunnersAreHonest, LiveAreNotDenied, PerformedAreNotDenied, LinesComeOnce, AttemptsPerformOnce, OperatorsAreTruthful, AnswersFollowIntents, HeldAreNotAnswered, LiveAreNotAnswered, PerformedAreNotAnswered, KernelGivesWithout, RunnerGivesWithout, MayPerformWithout, OperatorMaySayWithout, MayRecoverWithout, IsFirstWithout, MayFollowWithout, IsRunFromWithout, IsRunWithout}
use Rattle.amo_program_safety.proofs.Playing.{next, next_allowed, Given, Move, Birth, Step, Write, Hand, Death, Halt, Deed, End, run_of, is_run}
use Rattle.amo_program_safety.proofs.Witness.{steps, up_to_intent, clears, one, two, hands_over, hands_over_too, after, not_none, not_started, undone, undone_fits}

-- ---- what may come anyway may come without a premise

kernel_gives : (premise : Premise) (w : World) (p : Process) (c : Call) → KernelGives w p c → KernelGivesWithout premise w p c
kernel_gives LocksExclude w p (Tried (Guard worker) hold true) gives = tt
kernel_gives ReadsAreCurrent w p (LogIs log last texts counted) gives = tt
kernel_gives ReadsAreCurrent w p (HasRead log texts) gives = tt
kernel_gives AppendsAreKept w p (Recovered last texts) gives = tt
kernel_gives AppendsAreWritten w p (HasPut entry) gives = tt
kernel_gives AppendsAreWritten w p HasPaid gives = tt
kernel_gives premise w p c gives = gives

runner_gives : (premise : Premise) (w : World) (worker : ℕ) (c : Call) → RunnerGives w worker c → RunnerGivesWithout premise w worker c
runner_gives RunnersAreHonest w worker c gives = tt
runner_gives LiveAreNotDenied w worker (Heard line reply) gives = λ serial way is. (gives serial way is).not_performed
runner_gives PerformedAreNotDenied w worker (Heard line reply) gives = λ serial way is. (gives serial way is).not_alive
runner_gives premise w worker c gives = gives

may_perform : (premise : Premise) (w : World) (h : Handing) → (IsOneOf w.performed h → ⊥) → MayPerformWithout premise w h
may_perform AttemptsPerformOnce w h new = tt
may_perform premise w h new = new

may_say : (premise : Premise) (w : World) (f : Finding) → OperatorMaySay w f → OperatorMaySayWithout premise w f
may_say OperatorsAreTruthful w f may = tt
may_say AnswersFollowIntents w f may = λ is. let over = may is in record { kept = tt; not_held = over.not_held; not_alive = over.untouched.not_alive; not_performed = over.untouched.not_performed }
may_say HeldAreNotAnswered w f may = λ is. let over = may is in record { kept = over.kept; not_held = tt; not_alive = over.untouched.not_alive; not_performed = over.untouched.not_performed }
may_say LiveAreNotAnswered w f may = λ is. let over = may is in record { kept = over.kept; not_held = over.not_held; not_alive = tt; not_performed = over.untouched.not_performed }
may_say PerformedAreNotAnswered w f may = λ is. let over = may is in record { kept = over.kept; not_held = over.not_held; not_alive = over.untouched.not_alive; not_performed = tt }
may_say premise w f may = λ is. let over = may is in record { kept = over.kept; not_held = over.not_held; not_alive = over.untouched.not_alive; not_performed = over.untouched.not_performed }

may_recover : (premise : Premise) (w : World) (log : LogFile) → IsUnlocked w log → MayRecoverWithout premise w log
may_recover CommandsLock w log may = tt
may_recover premise w log may = may

is_first : (premise : Premise) (w : World) (worker serial : ℕ) → IsFirst w worker serial → IsFirstWithout premise w worker serial
is_first LinesComeOnce w worker serial first = tt
is_first premise w worker serial first = first

follows : (premise : Premise) (w : World) (e : Event) → MayFollow w e → MayFollowWithout premise w e
follows premise w (Calls process c) (p, may, its, kernel, runner) = (p, may, its, kernel_gives premise w p c kernel, runner_gives premise w p.worker c runner)
follows premise w (HandsOver process serial line text) (p, may, first) = (p, may, is_first premise w p.worker serial first)
follows premise w (Performs h) may = (may.0, may_perform premise w h may.1)
follows premise w (Resolves f) may = (may.0, may_say premise w f may.1)
follows premise w (Recovers log more) may = may_recover premise w log may
follows premise w e may = may

run_without : (premise : Premise) (w : World) (es : List Event) → IsRunFrom w es → IsRunFromWithout premise w es
run_without premise w [] run = tt
run_without premise w (e ∷ es) run = (follows premise w e run.0, run_without premise (world_after w e) es run.1)

run_both : (premise : Premise) (w : World) (es fs : List Event) → IsRunFromWithout premise w es → IsRunFromWithout premise (world_from w es) fs → IsRunFromWithout premise w (es ++ fs)
run_both premise w [] fs run rest = rest
run_both premise w (e ∷ es) fs run rest = (run.0, run_both premise (world_after w e) es fs run.1 rest)

moves : (premise : Premise) (w : World) (ms : List Move) → IsRunFromWithout premise w (run_of w ms)
moves premise w ms = run_without premise w (run_of w ms) (is_run ms w)

-- moves, this event, and more moves
abbrev around : World → List Move → Event → List Move → List Event
around w ms e more = run_of w ms ++ e ∷ run_of (world_after (after w ms) e) more

runs_around : (premise : Premise) (w : World) (ms : List Move) (e : Event) (more : List Move) → MayFollowWithout premise (after w ms) e → IsRunFromWithout premise w (around w ms e more)
runs_around premise w ms e more may = run_both premise w (run_of w ms) (e ∷ run_of (world_after (after w ms) e) more) (moves premise w ms) (may, moves premise (world_after (after w ms) e) more)

abbrev IsTwice : Premise → Type 0
IsTwice premise = (es : List Event) × IsRunWithout premise es × (map (λ h. h.line) (world_of es).performed ≡ 1 ∷ 1 ∷ [])

-- by one event that may come by the lack of the premise
twice : (premise : Premise) (ms : List Move) (e : Event) (more : List Move) → MayFollowWithout premise (after first_world ms) e
    → map (λ h. h.line) (world_of (around first_world ms e more)).performed ≡ 1 ∷ 1 ∷ [] → IsTwice premise
twice premise ms e more may performed = (around first_world ms e more, runs_around premise first_world ms e more may, performed)

-- the process, if there is one
abbrev if_there : Option Process → Process
if_there None = new_process 0
if_there (Some p) = p

there : (o : Option Process) → is_none o ≡ false → o ≡ Some (if_there o)
there None h = absurd (cc h)
there (Some p) h = refl

-- a process that lives
abbrev the_process : World → ℕ → Process
the_process w process = if_there (w.process process)

-- it makes its next call, and this comes of it
call : (premise : Premise) (w : World) (process : ℕ) (g : Given) (texts : LogFile → List (List ℕ)) (c : Call)
    → is_none (w.process process) ≡ false → next g texts (the_process w process).phase ≡ Some c → IsItsCall (the_process w process).writes (request_of c)
    → KernelGivesWithout premise w (the_process w process) c → RunnerGivesWithout premise w (the_process w process).worker c → MayFollowWithout premise w (Calls process c)
call premise w process g texts c lives is its kernel runner = (the_process w process, (there (w.process process) lives, next_allowed g texts (the_process w process).phase c is), its, kernel, runner)

-- ---- operators

-- an operator answers an attempt that a runner has
pub without_truthful_operators : IsTwice OperatorsAreTruthful
unfolding digits
without_truthful_operators = twice OperatorsAreTruthful hands_over (Resolves undone) (hands_over_too ++ Deed 1 ∷ []) (undone_fits, tt) refl

-- an operator answers an attempt whose intent is not on the disk, and it is put afterwards
pub if_attempts_without_intents_are_answered : IsTwice AnswersFollowIntents
unfolding digits
if_attempts_without_intents_are_answered = twice AnswersFollowIntents [] (Resolves undone) (hands_over ++ Deed 0 ∷ hands_over_too)
    (undone_fits, λ is. record { kept = tt; not_held = λ q p lives. not_none lives refl; not_alive = λ h one named. one; not_performed = λ h one named. one })
    refl

-- it answers an attempt that a process hands over afterwards
pub if_held_attempts_are_answered : IsTwice HeldAreNotAnswered
unfolding digits
if_held_attempts_are_answered = twice HeldAreNotAnswered (up_to_intent one 1 1 ++ clears one 1) (Resolves undone) (hands_over_too ++ Hand 1 ∷ Deed 0 ∷ [])
    (undone_fits, λ is. record { kept = (1, refl); not_held = tt; not_alive = λ h one named. one; not_performed = λ h one named. one })
    refl

-- it answers an attempt that is still under way after a stop of the machine
pub if_live_attempts_are_answered : IsTwice LiveAreNotAnswered
unfolding digits
if_live_attempts_are_answered = twice LiveAreNotAnswered (hands_over ++ Halt ∷ []) (Resolves undone) (hands_over_too ++ Deed 1 ∷ [])
    (undone_fits, λ is. record { kept = (1, refl); not_held = λ q p lives. not_none lives refl; not_alive = tt; not_performed = λ h one named. one })
    refl

-- it answers an attempt that has performed its line
pub if_performed_attempts_are_answered : IsTwice PerformedAreNotAnswered
unfolding digits
if_performed_attempts_are_answered = twice PerformedAreNotAnswered (hands_over ++ Deed 0 ∷ End 0 ∷ Halt ∷ []) (Resolves undone) hands_over_too
    (undone_fits, λ is. record { kept = (1, refl); not_held = λ q p lives. not_none lives refl; not_alive = λ h one named. one; not_performed = tt })
    refl

-- ---- runners

abbrev has_performed : List Move
has_performed = hands_over ++ Deed 0 ∷ End 0 ∷ []

-- an attempt performs its line again
pub without_one_performance : IsTwice AttemptsPerformOnce
unfolding digits
without_one_performance = twice AttemptsPerformOnce (hands_over ++ Deed 0 ∷ []) (Performs (record { worker = 1; serial = 1; line = 1 })) [] (inl refl, tt) refl

-- a runner says of an attempt that it has that it was not started
pub without_honest_runners : IsTwice RunnersAreHonest
unfolding digits
without_honest_runners = twice RunnersAreHonest hands_over (Calls 1 (Heard (perform_text 1 1 (codes "a")) not_started.reply))
    (steps 2 one 1 ++ Write one 1 ∷ Step one 1 ∷ hands_over_too ++ Deed 1 ∷ [])
    (call RunnersAreHonest (after first_world hands_over) 1 not_started (λ log. []) (Heard (perform_text 1 1 (codes "a")) not_started.reply) refl refl tt tt tt)
    refl

-- something of the attempt is still under way
pub if_live_attempts_are_denied : IsTwice LiveAreNotDenied
unfolding digits
if_live_attempts_are_denied = twice LiveAreNotDenied hands_over (Calls 1 (Heard (perform_text 1 1 (codes "a")) not_started.reply))
    (steps 2 one 1 ++ Write one 1 ∷ Step one 1 ∷ hands_over_too ++ Deed 1 ∷ [])
    (call LiveAreNotDenied (after first_world hands_over) 1 not_started (λ log. []) (Heard (perform_text 1 1 (codes "a")) not_started.reply) refl refl tt tt (λ serial way is h one named. one))
    refl

-- the attempt has performed its line
pub if_performed_attempts_are_denied : IsTwice PerformedAreNotDenied
unfolding digits
if_performed_attempts_are_denied = twice PerformedAreNotDenied has_performed (Calls 1 (Heard (perform_text 1 1 (codes "a")) not_started.reply))
    (steps 2 one 1 ++ Write one 1 ∷ Step one 1 ∷ hands_over_too)
    (call PerformedAreNotDenied (after first_world has_performed) 1 not_started (λ log. []) (Heard (perform_text 1 1 (codes "a")) not_started.reply) refl refl tt tt (λ serial way is h one named. one))
    refl

-- A process has handed its attempt over, and nothing of it is left. An operator answers it, and
-- then the line comes to the runner again.
abbrev is_left : List Move
is_left = hands_over ++ End 0 ∷ []

abbrev first_attempt : Handing
first_attempt = record { worker = 1; serial = 1; line = 1 }

is_over : IsOver (after first_world is_left) 1 1
unfolding digits
is_over = record {
  kept = (1, refl);
  not_held = λ q p lives worker free holds. (first_attempt, inl refl, (refl, refl));
  untouched = record { not_alive = λ h one is. one; not_performed = λ h one is. one };
}

abbrev is_answered : World
is_answered = world_after (after first_world is_left) (Resolves undone)

abbrev comes_again : Event
comes_again = HandsOver 1 1 1 (codes "a")

pub without_lines_once : IsTwice LinesComeOnce
unfolding digits
without_lines_once = (
  run_of first_world is_left ++ Resolves undone ∷ around is_answered hands_over_too comes_again (Deed 0 ∷ []),
  run_both LinesComeOnce first_world (run_of first_world is_left) (Resolves undone ∷ around is_answered hands_over_too comes_again (Deed 0 ∷ []))
      (moves LinesComeOnce first_world is_left) (
        follows LinesComeOnce (after first_world is_left) (Resolves undone) (undone_fits, λ is. is_over),
        runs_around LinesComeOnce is_answered hands_over_too comes_again (Deed 0 ∷ []) (
          the_process (after is_answered hands_over_too) 1,
          (
            there ((after is_answered hands_over_too).process 1) refl,
            next_allowed one (λ log. []) (the_process (after is_answered hands_over_too) 1).phase (Heard (perform_text 1 1 (codes "a")) one.reply) refl,
          ),
          tt,
        ),
      ),
  refl,
)

-- ---- the kernel and the disk

-- A second process of worker 1 gets the lock of its journal while the first one is about to hand
-- its attempt over. The second one learns truly that the attempt was not started.
abbrev both_live : List Move
both_live = up_to_intent one 1 1 ++ clears one 1 ++ Birth 2 1 ∷ []

pub without_locks : IsTwice LocksExclude
unfolding digits
without_locks = twice LocksExclude both_live (Calls 2 (Tried (Guard 1) Exclusive true))
    (steps 5 one 2 ++ Step not_started 2 ∷ Write one 2 ∷ steps 29 one 2 ++ clears one 2 ++ Hand 2 ∷ Hand 1 ∷ Deed 0 ∷ Deed 1 ∷ [])
    (call LocksExclude (after first_world both_live) 2 one (λ log. []) (Tried (Guard 1) Exclusive true) refl refl tt tt tt)
    refl

-- a process of worker 1 starts after its line was performed, and nothing is read of its journal
abbrev starts_again : List Move
starts_again = hands_over ++ Deed 0 ∷ Death 1 ∷ Birth 3 1 ∷ steps 3 one 3

pub without_kept_appends : IsTwice AppendsAreKept
unfolding digits
without_kept_appends = twice AppendsAreKept starts_again (Calls 3 (Recovered None [])) hands_over_too
    (call AppendsAreKept (after first_world starts_again) 3 one (λ log. []) (Recovered None []) refl refl tt tt tt)
    refl

-- a process learns that its intent is on the disk, but nothing was written
pub without_written_appends : IsTwice AppendsAreWritten
unfolding digits
without_written_appends = twice AppendsAreWritten (up_to_intent one 1 1) (Calls 1 (HasPut (Intent 1 1 0)))
    (steps 17 one 1 ++ Hand 1 ∷ Deed 0 ∷ hands_over_too)
    (call AppendsAreWritten (after first_world (up_to_intent one 1 1)) 1 one (λ log. []) (HasPut (Intent 1 1 0)) refl refl tt tt tt)
    refl

-- a command takes away what a living process has written
pub without_locked_commands : IsTwice CommandsLock
unfolding digits
without_locked_commands = twice CommandsLock (up_to_intent one 1 1 ++ Write one 1 ∷ []) (Recovers (Journal 1) 0)
    (steps 18 one 1 ++ Hand 1 ∷ Deed 0 ∷ hands_over_too)
    tt
    refl

-- a process of worker 2 reads nothing of the journal of worker 1
abbrev reads_answers : List Move
reads_answers = hands_over ++ Deed 0 ∷ Birth 2 2 ∷ steps 13 two 2

abbrev first_stale : Event
first_stale = Calls 2 (LogIs (Journal 1) (Some two.file) [] two.counted)

abbrev second_stale : Event
second_stale = Calls 2 (HasRead (Journal 1) [])

abbrev asks_again : List Move
asks_again = steps 20 two 2 ++ Write two 2 ∷ steps 2 two 2

abbrev has_read_nothing : World
has_read_nothing = world_after (after first_world reads_answers) first_stale

pub without_current_reads : IsTwice ReadsAreCurrent
unfolding digits
without_current_reads = (
  run_of first_world reads_answers ++ first_stale ∷ around has_read_nothing asks_again second_stale (steps 15 two 2 ++ Hand 2 ∷ Deed 0 ∷ []),
  run_both ReadsAreCurrent first_world (run_of first_world reads_answers) (first_stale ∷ around has_read_nothing asks_again second_stale (steps 15 two 2 ++ Hand 2 ∷ Deed 0 ∷ []))
      (moves ReadsAreCurrent first_world reads_answers) (
        call ReadsAreCurrent (after first_world reads_answers) 2 two (λ log. []) (LogIs (Journal 1) (Some two.file) [] two.counted) refl refl tt tt tt,
        runs_around ReadsAreCurrent has_read_nothing asks_again second_stale (steps 15 two 2 ++ Hand 2 ∷ Deed 0 ∷ [])
            (call ReadsAreCurrent (after has_read_nothing asks_again) 2 two (λ log. []) (HasRead (Journal 1) []) refl refl tt tt tt),
      ),
  refl,
)
