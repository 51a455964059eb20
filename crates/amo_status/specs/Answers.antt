-- Which answers of persons are taken, and which intents are answered not done by who tries again.
use Rattle.std.specs.Prelude.{◌≡◌, ◌≤◌, ℕ, ◌+◌, ◌-◌, ◌^◌, min, Bool, true, false, ◌&&◌, ◌==◌, not, nat_lt, List, [], ◌∷◌, ◌++◌, Option, Some, None, if◌then◌else◌}
use Rattle.std.specs.List.{list_any}
use Rattle.amo_run_log.specs.declared.entry.Outcome.{Outcome}
use Rattle.amo_run_log.specs.declared.entry.Outcome.TheVariants.{Done as Ended, Doubt as Unknown, Unbegun, Untouched as Idle}
use Rattle.amo_run_log.specs.declared.finding.Finding.{Finding}
use Rattle.amo_run_log.specs.declared.finding.Resolution.{Resolution}
use Rattle.amo_run_log.specs.declared.finding.Resolution.TheVariants.{Done as FoundDone, NotDone}
use Rattle.amo_run_log.specs.declared.journal.Attempt.{Attempt}
use Rattle.amo_run_log.specs.Findings.{is_of, is_undone}
use Rattle.amo_status.specs.declared.age.Age.{Age}
use Rattle.amo_status.specs.declared.age.Age.TheVariants.{Unknown, Ahead, Seconds}
use Rattle.amo_status.specs.declared.answering.Quiet.{Quiet}
use Rattle.amo_status.specs.declared.refusal.Refusal.{Refusal}
use Rattle.amo_status.specs.declared.refusal.Refusal.TheVariants.{NoIntent, OtherLine, NotClosing, NotAsked, Running as StillRunning, AnsweredOtherwise, AnsweredSo, EndUnknown, EndAhead, TooYoung}
use Rattle.amo_status.specs.declared.state.AttemptId.{AttemptId}
use Rattle.amo_status.specs.declared.state.State.{State}
use Rattle.amo_status.specs.declared.state.State.TheVariants.{Open, Done, Running}
use Rattle.amo_status.specs.Ages.{age_of}
use Rattle.amo_status.specs.States.{ended_at, is_among, is_found_done, state_of}
use Rattle.amo_status.specs.Standings.{attempt_of, standing_of}

-- whether a person said so of the intent
abbrev pub is_said : List Finding → ℕ → ℕ → Resolution → Bool
is_said findings worker serial FoundDone = is_found_done findings worker serial
is_said findings worker serial NotDone = is_undone findings worker serial

-- the contrary
abbrev pub contrary : Resolution → Resolution
contrary FoundDone = NotDone
contrary NotDone = FoundDone

-- why an answer to an intent that stands so is refused, if it is; it may close its line now or not
abbrev pub refusal_at : State → Bool → Option Refusal
refusal_at Open closing_now = Some NotAsked
refusal_at Done closing_now = Some NotAsked
refusal_at Running closing_now = Some StillRunning
refusal_at state closing_now = if closing_now then None else Some NotClosing

-- whether it is by this intent that the line is closed now
abbrev pub is_closed_by : List Finding → List (List Attempt) → List AttemptId → ℕ → ℕ → ℕ → Bool
is_closed_by findings journals finals worker serial line =
    let s = standing_of findings journals finals line in (s.worker == worker) && (s.serial == serial)

-- why an answer to this intent of this worker and serial number is refused
abbrev pub refusal_of_attempt : List Finding → List (List Attempt) → List AttemptId → ℕ → ℕ → ℕ → Resolution → Attempt → Option Refusal
refusal_of_attempt findings journals finals worker serial line verdict e =
    if not (e.line == line) then Some OtherLine
    else (if is_said findings worker serial (contrary verdict) then Some AnsweredOtherwise
    else (if is_said findings worker serial verdict then Some AnsweredSo
    else refusal_at (state_of findings finals worker serial e.answer) (is_closed_by findings journals finals worker serial line)))

-- the refusal of an answer if there may be no such intent
abbrev pub refusal_of_option : List Finding → List (List Attempt) → List AttemptId → ℕ → ℕ → ℕ → Resolution → Option Attempt → Option Refusal
refusal_of_option findings journals finals worker serial line verdict None = Some NoIntent
refusal_of_option findings journals finals worker serial line verdict (Some e) = refusal_of_attempt findings journals finals worker serial line verdict e

-- why an answer is refused, whenever it is given
abbrev pub refusal_of : List Finding → List (List Attempt) → List AttemptId → ℕ → ℕ → ℕ → Resolution → Option Refusal
refusal_of findings journals finals worker serial line verdict =
    refusal_of_option findings journals finals worker serial line verdict (attempt_of journals worker serial)

-- whether a person is asked about what is known so: nobody can know, it did nothing, or its code is
-- no success
abbrev pub is_asked : Bool → Option Outcome → Bool
is_asked final None = final
is_asked final (Some (Ended code time)) = not (code == 0)
is_asked final (Some (Unknown time)) = true
is_asked final (Some Unbegun) = false
is_asked final (Some (Idle code time)) = true

-- an answer to this intent may be taken: it is an intent of the line, a person is asked about it
-- and hasn't answered, and by it the line is closed now
pub record MayBeTaken (findings : List Finding) (journals : List (List Attempt)) (finals : List AttemptId) (worker serial line : ℕ) : Type 0 where
  pub asked : (e : Attempt) × (attempt_of journals worker serial ≡ Some e) × (e.line ≡ line) × (is_asked (is_among finals worker serial) e.answer ≡ true)
  pub unanswered : list_any (is_of worker serial) findings ≡ false
  pub closing : is_closed_by findings journals finals worker serial line ≡ true

-- whether an answer has to wait until what the attempt had sent has surely arrived: only
-- `not-done`, of an attempt that is in doubt or has failed. The command of any other attempt
-- reports that it did nothing, or was not begun.
abbrev pub must_wait : Resolution → Option Outcome → Bool
must_wait FoundDone answer = false
must_wait NotDone None = true
must_wait NotDone (Some (Ended code time)) = true
must_wait NotDone (Some (Unknown time)) = true
must_wait NotDone (Some Unbegun) = false
must_wait NotDone (Some (Idle code time)) = false

-- an attempt that ended then is quiet: that time is known, and so many seconds have passed since
abbrev pub IsQuiet : Quiet → ℕ → Type 0
IsQuiet quiet ended = (1 ≤ ended) × (ended + quiet.seconds ≤ quiet.now)

-- why it isn't, if it ended so long ago
abbrev pub unquiet_by : Quiet → ℕ → Age → Option Refusal
unquiet_by quiet ended Unknown = Some EndUnknown
unquiet_by quiet ended Ahead = Some (EndAhead ended quiet.now)
unquiet_by quiet ended (Seconds age) = if nat_lt age quiet.seconds then Some (TooYoung ended quiet.now quiet.seconds) else None

-- why an answer to this attempt has to wait; without a time to wait for, none has to
abbrev pub wait_of : Option Quiet → Resolution → Option Attempt → Option Refusal
wait_of None verdict attempt = None
wait_of (Some quiet) verdict None = None
wait_of (Some quiet) verdict (Some e) = if must_wait verdict e.answer then unquiet_by quiet (ended_at e.answer) (age_of quiet.now (ended_at e.answer)) else None

-- the first of two reasons, if there is one, else the second
abbrev pub first_reason : Option Refusal → Option Refusal → Option Refusal
first_reason None second = second
first_reason (Some first) second = Some first

-- why an answer is refused now
abbrev pub refusal_now : Option Quiet → List Finding → List (List Attempt) → List AttemptId → ℕ → ℕ → ℕ → Resolution → Option Refusal
refusal_now quiet findings journals finals worker serial line verdict =
    first_reason (refusal_of findings journals finals worker serial line verdict) (wait_of quiet verdict (attempt_of journals worker serial))

-- an answer may be taken now: it may be taken at all, and if it has to wait, its attempt is quiet
pub record MayBeTakenNow (waits : Option Quiet) (findings : List Finding) (journals : List (List Attempt)) (finals : List AttemptId) (worker serial line : ℕ) (verdict : Resolution) : Type 0 where
  pub may : MayBeTaken findings journals finals worker serial line
  pub quiet : (q : Quiet) (e : Attempt) → waits ≡ Some q → attempt_of journals worker serial ≡ Some e → must_wait verdict e.answer ≡ true → IsQuiet q (ended_at e.answer)

-- whether an answer that is refused for this reason may be taken only once somebody has looked:
-- nobody knows when its attempt ended
abbrev pub is_untimed : Refusal → Bool
is_untimed EndUnknown = true
is_untimed (EndAhead ended now) = true
is_untimed why = false

-- the last second since 1970 that 64 bits can hold
abbrev pub LAST_SECOND : ℕ
LAST_SECOND = 2 ^ 64 - 1

-- from when on an answer is taken that is refused for this reason alone, in seconds since 1970, or
-- 0 if its attempt didn't end too short a time ago
abbrev pub taken_from : Refusal → ℕ
taken_from (TooYoung ended now seconds) = min (ended + seconds) LAST_SECOND
taken_from why = 0

-- the findings, once this answer is noted among them
abbrev pub with_answer : List Finding → Resolution → ℕ → ℕ → ℕ → List Finding
with_answer findings verdict worker serial time = findings ++ record { verdict = verdict; worker = worker; serial = serial; time = time } ∷ []

-- whether it did nothing
abbrev pub is_idle : Option Outcome → Bool
is_idle (Some (Idle code time)) = true
is_idle answer = false

-- the intents of a journal that did nothing and that no person answered, the first of them of this
-- serial number
abbrev pub untouched_in : List Finding → ℕ → ℕ → List Attempt → List AttemptId
untouched_in findings worker serial [] = []
untouched_in findings worker serial (e ∷ es) =
    if is_idle e.answer && not (list_any (is_of worker serial) findings)
    then record { worker = worker; serial = serial } ∷ untouched_in findings worker (serial + 1) es
    else untouched_in findings worker (serial + 1) es

-- those of all these journals, the first of them of this worker
abbrev pub untouched_of : List Finding → ℕ → List (List Attempt) → List AttemptId
untouched_of findings worker [] = []
untouched_of findings worker (es ∷ journals) = untouched_in findings worker 1 es ++ untouched_of findings (worker + 1) journals
