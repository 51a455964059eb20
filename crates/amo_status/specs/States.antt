-- How an intent stands: by its answer, by what persons found out, and by whether a missing answer
-- is final.
use Rattle.std.specs.Prelude.{ℕ, Bool, ◌&&◌, ◌||◌, ◌==◌, not, List, Option, Some, None, if◌then◌else◌}
use Rattle.std.specs.List.{list_any}
use Rattle.amo_run_log.specs.declared.entry.Outcome.{Outcome}
use Rattle.amo_run_log.specs.declared.entry.Outcome.TheVariants.{Done as Ended, Doubt as Unknown, Unbegun, Untouched as Idle}
use Rattle.amo_run_log.specs.declared.finding.Finding.{Finding}
use Rattle.amo_run_log.specs.Findings.{is_not_done, is_of, is_undone}
use Rattle.amo_run_log.specs.Open.{reopens}
use Rattle.amo_status.specs.declared.state.AttemptId.{AttemptId}
use Rattle.amo_status.specs.declared.state.State.{State}
use Rattle.amo_status.specs.declared.state.State.TheVariants.{Open, Done, Failed, Doubt, Untouched, Running}

-- the place of a state among all
abbrev pub number_of : State → ℕ
number_of Open = 0
number_of Done = 1
number_of Failed = 2
number_of Doubt = 3
number_of Untouched = 4
number_of Running = 5

-- whether it is this one
abbrev pub is : State → State → Bool
is kind s = number_of kind == number_of s

-- whether the intent of this worker and serial number is among these
abbrev pub is_among : List AttemptId → ℕ → ℕ → Bool
is_among intents worker serial = list_any (λ i. (i.worker == worker) && (i.serial == serial)) intents

-- whether a person found that what was intended was done
abbrev pub is_found_done : List Finding → ℕ → ℕ → Bool
is_found_done findings worker serial = list_any (λ f. not (is_not_done f.verdict) && is_of worker serial f) findings

-- when an intent ended, by the time in its answer, in seconds since 1970; 0 stands for a time that
-- is not known
abbrev pub ended_at : Option Outcome → ℕ
ended_at None = 0
ended_at (Some (Ended code time)) = time
ended_at (Some (Unknown time)) = time
ended_at (Some Unbegun) = 0
ended_at (Some (Idle code time)) = time

-- how an intent stands by an answer
abbrev pub state_in : Outcome → State
state_in (Ended code time) = if code == 0 then Done else Failed
state_in (Unknown time) = Doubt
state_in Unbegun = Open
state_in (Idle code time) = Untouched

-- how it stands by what is known of it; without an answer it runs, unless nobody can answer any
-- more
abbrev pub state_by : Bool → Option Outcome → State
state_by final None = if final then Doubt else Running
state_by final (Some answer) = state_in answer

-- how an intent stands: what was opened again is open, and a person's word that it was done goes
-- before its answer
abbrev pub state_of : List Finding → List AttemptId → ℕ → ℕ → Option Outcome → State
state_of findings finals worker serial answer =
    if reopens answer || is_undone findings worker serial then Open
    else (if is_found_done findings worker serial then Done else state_by (is_among finals worker serial) answer)
