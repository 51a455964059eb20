-- Which reason is found, by the judge's state.
use Rattle.std.specs.Prelude.{◌≡◌, ◌≤◌, ℕ, ◌+◌, Bool, true, false, not, ◌&&◌, ◌||◌, ◌==◌, nat_le, if◌then◌else◌, List, [], ◌∷◌, Option, Some, None, option_map}
use Rattle.std.specs.List.{list_any}
use Rattle.amo_params.specs.declared.limits.TheConstants.{MAX_WORKERS}
use Rattle.amo_call_log_judge.specs.declared.event.Attempt.{Attempt}
use Rattle.amo_call_log_judge.specs.declared.event.Handing.{Handing}
use Rattle.amo_call_log_judge.specs.declared.journal.Intent.{Intent}
use Rattle.amo_call_log_judge.specs.declared.journal.Stage.{Stage}
use Rattle.amo_call_log_judge.specs.declared.journal.Stage.TheVariants.{Away, Free, Clearing}
use Rattle.amo_call_log_judge.specs.declared.reason.Reason.{Reason}
use Rattle.amo_call_log_judge.specs.declared.reason.Reason.TheVariants.{HasProcess, NoProcess, HasIntent, NoIntent, Taken, NotSeen, NotAlive, PerformedBefore, NotKept, Held, Alive, Performed}

-- a journal with so many intents has one of this serial number
abbrev pub has_serial : ℕ → ℕ → Bool
has_serial count serial = nat_le 1 serial && nat_le serial count

-- the process holds the attempt of this serial number
abbrev pub holds_serial : Stage → ℕ → Bool
holds_serial Away serial = false
holds_serial Free serial = false
holds_serial (Clearing held line) serial = held == serial

-- the attempt is another one than that of this worker and serial number
abbrev pub is_other : Attempt → ℕ → ℕ → Bool
is_other own worker serial = not (own.worker == worker) || not (own.serial == serial)

-- the intent, of this serial number in the journal of this worker, stands against the attempt at
-- the line
abbrev pub stands : ℕ → Attempt → ℕ → ℕ → Intent → Bool
stands worker own line serial intent = (intent.line == line) && (not intent.opened && is_other own worker serial)

-- the serial number of the first of these intents that does, which come after so many others
abbrev pub first_standing : ℕ → Attempt → ℕ → ℕ → List Intent → Option ℕ
first_standing worker own line before [] = None
first_standing worker own line before (intent ∷ kept) =
    if stands worker own line (before + 1) intent then Some (before + 1) else first_standing worker own line (before + 1) kept

-- the handing over is that of this attempt, with this line
abbrev pub is_same : Handing → Handing → Bool
is_same h other = (other.worker == h.worker) && ((other.serial == h.serial) && (other.line == h.line))

-- the handing over is that of this attempt
abbrev pub is_of : Attempt → Handing → Bool
is_of a h = (h.worker == a.worker) && (h.serial == a.serial)

-- why a process may not begin, or an intent may not land
abbrev pub process_reason : Stage → Option Reason
process_reason Away = None
process_reason Free = Some HasProcess
process_reason (Clearing serial line) = Some HasProcess

-- why the process may not intend a line
abbrev pub intent_reason : Stage → Option Reason
intent_reason Away = Some NoProcess
intent_reason Free = None
intent_reason (Clearing serial line) = Some HasIntent

-- why the worker may not look at the journal of the other one
abbrev pub look_reason : ℕ → ℕ → Stage → List Intent → Option Reason
look_reason worker other Away kept = Some NoIntent
look_reason worker other Free kept = Some NoIntent
look_reason worker other (Clearing serial line) kept =
    option_map (λ standing. Taken standing line) (first_standing other (record { worker = worker; serial = serial }) line 0 kept)

-- this worker's journal is one of those at which the process has looked
abbrev pub has_seen : List ℕ → ℕ → Bool
has_seen seen other = list_any (λ q. q == other) seen

-- this is why the process, which has looked at these journals since its intent, may not hand over,
-- or it may
abbrev pub IsUnseen : List ℕ → Option Reason → Type 0
IsUnseen seen None = (other : ℕ) → other ≤ MAX_WORKERS → has_seen seen other ≡ true
IsUnseen seen (Some (NotSeen other)) = (other ≤ MAX_WORKERS) × (has_seen seen other ≡ false)
IsUnseen seen (Some reason) = ⊥

-- this is the reason why the process at this stage may not hand over, if it may not
abbrev pub IsHandOverReason : Stage → List ℕ → Option Reason → Type 0
IsHandOverReason Away seen reason = reason ≡ Some NoIntent
IsHandOverReason Free seen reason = reason ≡ Some NoIntent
IsHandOverReason (Clearing serial line) seen reason = IsUnseen seen reason

-- why the line of the attempt may not be performed
abbrev pub perform_reason : List Handing → List Handing → Handing → Option Reason
perform_reason alive performed h =
    if list_any (is_same h) alive then (if list_any (is_same h) performed then Some PerformedBefore else None) else Some NotAlive

-- why the attempt may not be opened, in a journal with so many intents
abbrev pub open_reason : ℕ → Stage → List Handing → List Handing → Attempt → Option Reason
open_reason count stage alive performed a =
    if has_serial count a.serial
    then (if holds_serial stage a.serial then Some Held
    else (if list_any (is_of a) alive then Some Alive
    else (if list_any (is_of a) performed then Some Performed
    else None)))
    else Some NotKept
