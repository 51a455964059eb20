-- The state of the judge, and the site of the model that it shows.
use Rattle.std.specs.Prelude.{◌≡◌, ℕ, zero, suc, ◌+◌, Bool, true, false, List, [], ◌∷◌, length, map, Option, Some, None}
use Rattle.std.specs.List.{slice_get}
use Rattle.amo_safety_by_journals.specs.Model.{IsOneOf, Stage, Away, Free, Clearing, Site, site_after, Event, HandsOver}
use Rattle.amo_safety_by_journals.specs.Runs.{Clearance, MayFollow}
use Rattle.amo_params.specs.declared.limits.TheConstants.{MAX_WORKERS}
use Rattle.amo_call_log_judge.specs.Against.{Against}
use Rattle.amo_call_log_judge.specs.Events.{handing_of}
use Rattle.amo_call_log_judge.specs.declared.journal.Intent.{Intent}
use Rattle.amo_call_log_judge.specs.declared.journal.Journal.{Journal}
use Rattle.amo_call_log_judge.specs.declared.journal.Stage.{Stage as StageKept}
use Rattle.amo_call_log_judge.specs.declared.journal.Stage.TheVariants.{Away as AwayKept, Free as FreeKept, Clearing as ClearingKept}
use Rattle.amo_call_log_judge.specs.declared.reason.Reason.{Reason}
use Rattle.amo_call_log_judge.specs.declared.site.Site.{Site as SiteKept}

-- the lines of these intents
abbrev pub lines_in : List Intent → List ℕ
lines_in kept = map (λ intent. intent.line) kept

-- the attempt at this index, or of this serial number, is opened
abbrev pub is_open_at : List Intent → ℕ → Bool
is_open_at [] i = false
is_open_at (intent ∷ kept) zero = intent.opened
is_open_at (intent ∷ kept) (suc i) = is_open_at kept i

-- the attempt of this serial number is opened
abbrev pub is_opened : List Intent → ℕ → Bool
is_opened kept zero = false
is_opened kept (suc i) = is_open_at kept i

-- the intents once the attempt at this index, or of this serial number, is opened
abbrev pub with_open_at : List Intent → ℕ → List Intent
with_open_at [] i = []
with_open_at (intent ∷ kept) zero = record { line = intent.line; opened = true } ∷ kept
with_open_at (intent ∷ kept) (suc i) = intent ∷ with_open_at kept i

-- the intents once the attempt of this serial number is opened
abbrev pub with_opened : List Intent → ℕ → List Intent
with_opened kept zero = kept
with_opened kept (suc i) = with_open_at kept i

-- what a process is at that has looked at these journals since its intent
abbrev pub stage_of : StageKept → List ℕ → Stage
stage_of AwayKept seen = Away
stage_of FreeKept seen = Free
stage_of (ClearingKept serial line) seen = Clearing serial line seen

-- the intents of a journal, or none if the journal is missing
abbrev pub kept_of : Option Journal → List Intent
kept_of None = []
kept_of (Some j) = j.kept.items

-- the stage of the process that has this journal, or none if the journal is missing
abbrev pub process_of : Option Journal → Stage
process_of None = Away
process_of (Some j) = stage_of j.stage j.seen.items

-- the intents of the journal at this index
abbrev pub kept_at : List Journal → ℕ → List Intent
kept_at journals q = kept_of (slice_get journals q)

-- the stage of the process that has the journal at this index
abbrev pub process_at : List Journal → ℕ → Stage
process_at journals q = process_of (slice_get journals q)

-- the judge's state shows this site
pub record Shows (s : SiteKept) (w : Site) : Type 0 where
  pub workers : length s.journals.items ≡ MAX_WORKERS + 1
  pub kept : (q : ℕ) → w.kept q ≡ lines_in (kept_at s.journals.items q)
  pub stage : (q : ℕ) → w.stage q ≡ process_at s.journals.items q
  pub opened : (q serial : ℕ) → is_opened (kept_at s.journals.items q) serial ≡ true → IsOneOf w.opened (record { worker = q; serial = serial })
  pub opened_only : (q serial : ℕ) → IsOneOf w.opened (record { worker = q; serial = serial }) → is_opened (kept_at s.journals.items q) serial ≡ true
  pub alive : w.alive ≡ map handing_of s.alive.items
  pub performed : w.performed ≡ map handing_of s.performed.items

-- the answer to whether the event may come next
abbrev pub IsReason : Site → Event → Option Reason → Type 0
IsReason w e None = MayFollow Clearance MAX_WORKERS w e
IsReason w e (Some reason) = Against w e reason

-- the state shows the site after the event, if the one before shows a site after which the event
-- may come
abbrev pub Follows : SiteKept → Event → SiteKept → Type 0
Follows s e t = (w : Site) → Shows s w → MayFollow Clearance MAX_WORKERS w e → Shows t (site_after w e)

-- a journal without intents, which no process has
pub record IsFresh (j : Journal) : Type 0 where
  pub kept : j.kept.items ≡ []
  pub stage : j.stage ≡ AwayKept

-- each of the journals is such a one
abbrev pub AreFresh : List Journal → Type 0
AreFresh [] = Unit {0}
AreFresh (j ∷ js) = IsFresh j × AreFresh js

-- the worker's process, which holds this attempt, has handed it over
abbrev pub Releases : SiteKept → ℕ → ℕ → ℕ → SiteKept → Type 0
Releases s p serial line t = (j : Journal) → slice_get s.journals.items p ≡ Some j → j.stage ≡ ClearingKept serial line → Follows s (HandsOver p) t
