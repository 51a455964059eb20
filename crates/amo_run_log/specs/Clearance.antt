-- When a line is clear for an attempt at it: each other attempt at the line, in all journals, is
-- opened.
use Rattle.std.specs.Prelude.{slice_get, ◌⊎◌, ◌≡◌, ◌≢◌, ◌≤◌, ◌<◌, ◌+◌, ◌-◌, ◌==◌, ◌&&◌, ◌||◌, not, ℕ, Bool, true, false, List, [], ◌∷◌, Some}
use Rattle.amo_run_log.specs.declared.finding.Finding.{Finding}
use Rattle.amo_run_log.specs.declared.journal.Attempt.{Attempt}
use Rattle.amo_run_log.specs.declared.clearance.AttemptId.{AttemptId}
use Rattle.amo_run_log.specs.declared.entry.Entry.{Entry}
use Rattle.amo_run_log.specs.declared.entry.Entry.TheVariants.{Intent, Answer as Answered}
use Rattle.amo_run_log.specs.Findings.{is_undone}
use Rattle.amo_run_log.specs.Open.{closes, reopens}

-- this attempt is opened: it was not begun, or a person found it not done
abbrev pub IsOpened : List Finding → ℕ → ℕ → Attempt → Type 0
IsOpened findings worker serial e = (reopens e.answer ≡ true) ⊎ (is_undone findings worker serial ≡ true)

-- these journals have this attempt at the line, in that worker's journal and with that serial
-- number, both from 1
abbrev pub IsAttempt : List (List Attempt) → ℕ → ℕ → ℕ → Attempt → Type 0
IsAttempt journals line worker serial e =
    (1 ≤ worker) × (1 ≤ serial) × (es : List Attempt) × (slice_get journals (worker - 1) ≡ Some es) × (slice_get es (serial - 1) ≡ Some e) × (e.line ≡ line)

-- another attempt than this one has the worker and the serial number
abbrev pub IsOther : AttemptId → ℕ → ℕ → Type 0
IsOther own worker serial = (worker ≢ own.worker) ⊎ (serial ≢ own.serial)

-- each attempt at the line but this one, in all journals, is opened
abbrev pub IsClear : List Finding → List (List Attempt) → AttemptId → ℕ → Type 0
IsClear findings journals own line =
    (worker serial : ℕ) (e : Attempt) → IsAttempt journals line worker serial e → IsOther own worker serial → IsOpened findings worker serial e

-- an attempt at the line, other than this one, that is not opened
abbrev pub IsStanding : List Finding → List (List Attempt) → AttemptId → ℕ → AttemptId → Type 0
IsStanding findings journals own line other =
    (e : Attempt) × IsAttempt journals line other.worker other.serial e × IsOther own other.worker other.serial × (IsOpened findings other.worker other.serial e → ⊥)

-- whether this attempt keeps the line from being clear for `own`: another attempt at the line that
-- closes it
abbrev pub stands_against : List Finding → AttemptId → (line worker serial : ℕ) → Attempt → Bool
stands_against findings own line worker serial e = closes findings worker serial e line && not ((worker == own.worker) && (serial == own.serial))

-- whether one of these attempts does, the first of them of this serial number
abbrev pub any_stands : List Finding → AttemptId → (line worker serial : ℕ) → List Attempt → Bool
any_stands findings own line worker serial [] = false
any_stands findings own line worker serial (e ∷ es) = stands_against findings own line worker serial e || any_stands findings own line worker (serial + 1) es

-- whether one in these journals does, the first of them of this worker
abbrev pub stands_in : List Finding → AttemptId → (line worker : ℕ) → List (List Attempt) → Bool
stands_in findings own line worker [] = false
stands_in findings own line worker (es ∷ journals) = any_stands findings own line worker 1 es || stands_in findings own line (worker + 1) journals

-- whether the line is clear for an attempt, as `IsClear` says it
abbrev pub is_clear : List Finding → List (List Attempt) → AttemptId → (line : ℕ) → Bool
is_clear findings journals own line = not (stands_in findings own line 1 journals)

-- an attempt of this worker and serial number comes before that one: in an earlier journal, or
-- earlier in the same one
abbrev pub IsBefore : AttemptId → ℕ → ℕ → Type 0
IsBefore other worker serial = (worker < other.worker) ⊎ ((worker ≡ other.worker) × (serial < other.serial))

-- it is no intent at the line
abbrev pub IsNoIntentAt : ℕ → Entry → Type 0
IsNoIntentAt line (Intent serial other time) = other ≢ line
IsNoIntentAt line (Answered serial answer) = Unit {0}
