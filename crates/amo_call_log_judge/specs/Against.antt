-- The meaning of each reason, at the site before the event, and of a verdict.
use Rattle.std.specs.Prelude.{◌≡◌, ◌≤◌, ℕ, List, ◌∷◌, ◌++◌, length, Some}
use Rattle.amo_safety_by_journals.specs.Model.{Attempt, Handing, IsOneOf, Away, Clearing, Site, Event, Begins, Lands, Intends, Looks, HandsOver, Performs, Opens, line_of}
use Rattle.amo_safety_by_journals.specs.Runs.{Clearance, IsOf, IsRun, site_of}
use Rattle.amo_params.specs.declared.limits.TheConstants.{MAX_WORKERS}
use Rattle.amo_call_log_judge.specs.declared.reason.Reason.{Reason}
use Rattle.amo_call_log_judge.specs.declared.reason.Reason.TheVariants.{HasProcess, NoProcess, HasIntent, NoIntent, Taken, NotSeen, NotAlive, PerformedBefore, NotKept, Held, Alive, Performed}
use Rattle.amo_call_log_judge.specs.declared.reason.Verdict.{Verdict}
use Rattle.amo_call_log_judge.specs.declared.reason.Verdict.TheVariants.{Run, NoRun}

-- the process has an acknowledged intent, of this line under this serial number, which it has not
-- handed over
abbrev pub Holds : Site → ℕ → ℕ → ℕ → Type 0
Holds w p serial line = (seen : List ℕ) × (w.stage p ≡ Clearing serial line seen)

-- the process has no such intent
abbrev pub HoldsNothing : Site → ℕ → Type 0
HoldsNothing w p = (serial line : ℕ) → Holds w p serial line → ⊥

-- the attempt of this serial number in the journal of q is at the line, is another one than `own`,
-- and is not opened
pub record Stands (w : Site) (q serial : ℕ) (own : Attempt) (line : ℕ) : Type 0 where
  pub at_line : line_of (w.kept q) serial ≡ Some line
  pub other : record { worker = q; serial = serial } ≡ own → ⊥
  pub not_opened : IsOneOf w.opened (record { worker = q; serial = serial }) → ⊥

-- the reason is so at the site before the event
abbrev pub Against : Site → Event → Reason → Type 0
Against w (Begins p) HasProcess = w.stage p ≡ Away → ⊥
Against w (Lands p line) HasProcess = w.stage p ≡ Away → ⊥
Against w (Intends p line) NoProcess = w.stage p ≡ Away
Against w (Intends p line) HasIntent = (serial : ℕ) × (held : ℕ) × Holds w p serial held
Against w (Looks p q) NoIntent = HoldsNothing w p
Against w (Looks p q) (Taken serial line) = (own : ℕ) × Holds w p own line × Stands w q serial (record { worker = p; serial = own }) line
Against w (HandsOver p) NoIntent = HoldsNothing w p
Against w (HandsOver p) (NotSeen q) = (serial : ℕ) × (line : ℕ) × (seen : List ℕ) × (w.stage p ≡ Clearing serial line seen) × (q ≤ MAX_WORKERS) × (IsOneOf seen q → ⊥)
Against w (Performs h) NotAlive = IsOneOf w.alive h → ⊥
Against w (Performs h) PerformedBefore = IsOneOf w.performed h
Against w (Opens a) NotKept = (line : ℕ) → line_of (w.kept a.worker) a.serial ≡ Some line → ⊥
Against w (Opens a) Held = (line : ℕ) × Holds w a.worker a.serial line
Against w (Opens a) Alive = (h : Handing) × IsOneOf w.alive h × IsOf a h
Against w (Opens a) Performed = (h : Handing) × IsOneOf w.performed h × IsOf a h
Against w e reason = ⊥

-- the events before this one are a run, and the reason is against it
pub record IsNoRun (before : List Event) (e : Event) (reason : Reason) : Type 0 where
  pub run : IsRun Clearance MAX_WORKERS before
  pub against : Against (site_of before) e reason

-- how many lines are performed in these events
abbrev pub performed_in : List Event → ℕ
performed_in es = length (site_of es).performed

-- the verdict on the events is so
abbrev pub IsVerdictOn : List Event → Verdict → Type 0
IsVerdictOn es (Run performed) = IsRun Clearance MAX_WORKERS es × (performed ≡ performed_in es)
IsVerdictOn es (NoRun index reason) = (before : List Event) × (e : Event) × (behind : List Event) × (es ≡ before ++ e ∷ behind) × (index ≡ length before) × IsNoRun before e reason
