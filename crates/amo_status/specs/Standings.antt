-- How a line stands: by the intents that close it, in the order of the journals.
use Rattle.std.specs.Prelude.{◌≡◌, ℕ, ◌+◌, ◌-◌, true, ◌&&◌, nat_le, List, [], ◌∷◌, ◌++◌, map, slice_get, slice_index_or, Option, Some, None, if◌then◌else◌}
use Rattle.std.specs.List.{filter}
use Rattle.amo_run_log.specs.declared.finding.Finding.{Finding}
use Rattle.amo_run_log.specs.declared.journal.Attempt.{Attempt}
use Rattle.amo_run_log.specs.Open.{closes, numbers}
use Rattle.amo_status.specs.declared.standing.LineStatus.{LineStatus}
use Rattle.amo_status.specs.declared.state.AttemptId.{AttemptId}
use Rattle.amo_status.specs.declared.state.State.TheVariants.{Open, Running}
use Rattle.amo_status.specs.States.{ended_at, is, state_of}

-- the intent of this worker and serial number, if there is one
abbrev pub attempt_of : List (List Attempt) → ℕ → ℕ → Option Attempt
attempt_of journals worker serial = if nat_le 1 worker && nat_le 1 serial then slice_get (slice_index_or journals (worker - 1) []) (serial - 1) else None

-- how a line stands that no intent closes
abbrev pub open_standing : LineStatus
open_standing = record { state = Open; worker = 0; serial = 0; time = 0; ended = 0 }

-- how a line stands by this intent
abbrev pub standing_by : List Finding → List AttemptId → ℕ → ℕ → Attempt → LineStatus
standing_by findings finals worker serial e =
    record { state = state_of findings finals worker serial e.answer; worker = worker; serial = serial; time = e.time; ended = ended_at e.answer }

-- the same in a list, if the intent closes the line
abbrev pub if_closing : List Finding → List AttemptId → ℕ → ℕ → Attempt → ℕ → List LineStatus
if_closing findings finals worker serial e line = if closes findings worker serial e line then standing_by findings finals worker serial e ∷ [] else []

-- those by the intents of a journal, the first of them of this serial number, that close the line
abbrev pub closing_in : List Finding → List AttemptId → ℕ → ℕ → List Attempt → ℕ → List LineStatus
closing_in findings finals worker serial [] line = []
closing_in findings finals worker serial (e ∷ es) line = if_closing findings finals worker serial e line ++ closing_in findings finals worker (serial + 1) es line

-- those of all these journals, the first of them of this worker
abbrev pub closing : List Finding → List AttemptId → ℕ → List (List Attempt) → ℕ → List LineStatus
closing findings finals worker [] line = []
closing findings finals worker (es ∷ journals) line = closing_in findings finals worker 1 es line ++ closing findings finals (worker + 1) journals line

-- the first of them
abbrev pub foremost : List LineStatus → LineStatus
foremost [] = open_standing
foremost (s ∷ ss) = s

-- the one that decides: the first that runs, else the first
abbrev pub deciding : List LineStatus → LineStatus
deciding ss = foremost (filter (λ s. is Running s.state) ss ++ ss)

-- how a line stands
abbrev pub standing_of : List Finding → List (List Attempt) → List AttemptId → ℕ → LineStatus
standing_of findings journals finals line = deciding (closing findings finals 1 journals line)

-- how the lines 1..count stand, in order
abbrev pub standings_of : List Finding → List (List Attempt) → List AttemptId → ℕ → List LineStatus
standings_of findings journals finals count = map (standing_of findings journals finals) (numbers count)

-- the line stands so by an intent that closes it
pub record IsByIntent (findings : List Finding) (journals : List (List Attempt)) (finals : List AttemptId) (line : ℕ) (s : LineStatus) : Type 0 where
  pub attempt : Attempt
  pub there : attempt_of journals s.worker s.serial ≡ Some attempt
  pub closing : closes findings s.worker s.serial attempt line ≡ true
  pub stands : s ≡ standing_by findings finals s.worker s.serial attempt
