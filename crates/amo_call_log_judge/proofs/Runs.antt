-- A run with one event more.
use Rattle.std.proofs.Common.{◌≡◌, ◌<◌, ◌≤◌, ℕ, zero, suc, ◌+◌, List, [], ◌∷◌, ◌++◌, length, map, take, drop, get_or, Some, None, refl, sym, ap, ◌∙◌, subst, arith}
use Rattle.std.proofs.lemmas.List.{length-map}
use Rattle.amo_safety_by_journals.specs.Model.{Site, first_site, Event, site_after}
use Rattle.amo_safety_by_journals.specs.Runs.{Rule, Clearance, MayFollow, IsRun, IsRunFrom, site_from, site_of}
use Rattle.amo_params.specs.declared.limits.TheConstants.{MAX_WORKERS}
use Rattle.amo_call_log_judge.specs.Against.{IsVerdictOn}
use Rattle.amo_call_log_judge.specs.Events.{event_of, handing_of}
use Rattle.amo_call_log_judge.specs.Grammar.{MayAllStand, MayStand}
use Rattle.amo_call_log_judge.specs.Seen.{Follows, IsReason, Shows}
use Rattle.amo_call_log_judge.specs.declared.event.Event.{Event as EventRead}
use Rattle.amo_call_log_judge.specs.declared.reason.Reason.{Reason}
use Rattle.amo_call_log_judge.specs.declared.reason.Verdict.TheVariants.{Run, NoRun}
use Rattle.amo_call_log_judge.specs.declared.site.Site.{Site as SiteKept}

pub site_more : (w : Site) (es : List Event) (e : Event) → site_from w (es ++ e ∷ []) ≡ site_after (site_from w es) e
site_more w [] e = refl
site_more w (x ∷ es) e = site_more (site_after w x) es e

pub run_more : (rule : Rule) (n : ℕ) (w : Site) (es : List Event) (e : Event) → IsRunFrom rule n w es → MayFollow rule n (site_from w es) e → IsRunFrom rule n w (es ++ e ∷ [])
run_more rule n w [] e run may = (may, tt)
run_more rule n w (x ∷ es) e run may = (run.0, run_more rule n (site_after w x) es e run.1 may)

-- the event after the first ones of a run may follow
pub run_at : (rule : Rule) (n : ℕ) (w : Site) (es : List Event) (e : Event) (behind : List Event) → IsRunFrom rule n w (es ++ e ∷ behind) → MayFollow rule n (site_from w es) e
run_at rule n w [] e behind run = run.0
run_at rule n w (x ∷ es) e behind run = run_at rule n (site_after w x) es e behind run.1

-- ---- the events that were judged so far

pub one_more : (events : List EventRead) (k : ℕ) (d : EventRead) → k < length events → map event_of (take (k + 1) events) ≡ map event_of (take k events) ++ event_of (get_or events k d) ∷ []
one_more events k d lt = ap (λ (n : ℕ). map event_of (take n events)) next ∙ by_place events k lt
  where
    next : k + 1 ≡ suc k
    next = omega arith

    by_place : (events : List EventRead) (k : ℕ) → k < length events → map event_of (take (suc k) events) ≡ map event_of (take k events) ++ event_of (get_or events k d) ∷ []
    by_place [] k lt = absurd (omega arith)
    by_place (x ∷ events) zero lt = refl
    by_place (x ∷ events) (suc k) lt = ap (λ (es : List Event). event_of x ∷ es) (by_place events k (omega (arith, lt)))

pub parted : (events : List EventRead) (k : ℕ) (d : EventRead) → k < length events → map event_of events ≡ map event_of (take k events) ++ event_of (get_or events k d) ∷ map event_of (drop (suc k) events)
parted [] k d lt = absurd (omega arith)
parted (x ∷ events) zero d lt = refl
parted (x ∷ events) (suc k) d lt = ap (λ (es : List Event). event_of x ∷ es) (parted events k d (omega (arith, lt)))

pub taken_many : (events : List EventRead) (k : ℕ) → k < length events → length (map event_of (take k events)) ≡ k
taken_many [] k lt = absurd (omega arith)
taken_many (x ∷ events) zero lt = refl
taken_many (x ∷ events) (suc k) lt = ap suc (taken_many events k (omega (arith, lt)))

pub all_taken : (events : List EventRead) (k : ℕ) → length events ≤ k → take k events ≡ events
all_taken [] zero le = refl
all_taken [] (suc k) le = refl
all_taken (x ∷ events) zero le = absurd (omega (arith, le))
all_taken (x ∷ events) (suc k) le = ap (λ (es : List EventRead). x ∷ es) (all_taken events k (omega (arith, le)))

pub stands_at : (events : List EventRead) (k : ℕ) (d : EventRead) → k < length events → MayAllStand (map event_of events) → MayStand (event_of (get_or events k d))
stands_at [] k d lt all = absurd (omega arith)
stands_at (x ∷ events) zero d lt all = all.0
stands_at (x ∷ events) (suc k) d lt all = stands_at events k d (omega (arith, lt)) all.1

-- the state shows the site after one event more, and the events are a run
pub goes_on : (events : List EventRead) (k : ℕ) (d : EventRead) (s t : SiteKept) → k < length events → IsRun Clearance MAX_WORKERS (map event_of (take k events)) → Shows s (site_of (map event_of (take k events)))
    → IsReason (site_of (map event_of (take k events))) (event_of (get_or events k d)) None → Follows s (event_of (get_or events k d)) t
    → IsRun Clearance MAX_WORKERS (map event_of (take (k + 1) events)) × Shows t (site_of (map event_of (take (k + 1) events)))
goes_on events k d s t lt run shows may follows = (
  subst (IsRun Clearance MAX_WORKERS) (sym more) (run_more Clearance MAX_WORKERS first_site (map event_of (take k events)) (event_of (get_or events k d)) run may),
  subst (λ (w : Site). Shows t w) (sym (ap site_of more ∙ site_more first_site (map event_of (take k events)) (event_of (get_or events k d)))) (follows (site_of (map event_of (take k events))) shows may),
)
  where
    more : map event_of (take (k + 1) events) ≡ map event_of (take k events) ++ event_of (get_or events k d) ∷ []
    more = one_more events k d lt

-- the event may not follow
pub no_run_at : (events : List EventRead) (k : ℕ) (d : EventRead) (reason : Reason) → k < length events → IsRun Clearance MAX_WORKERS (map event_of (take k events)) → IsReason (site_of (map event_of (take k events))) (event_of (get_or events k d)) (Some reason)
    → IsVerdictOn (map event_of events) (NoRun k reason)
no_run_at events k d reason lt run against =
    (map event_of (take k events), event_of (get_or events k d), map event_of (drop (suc k) events), parted events k d lt, sym (taken_many events k lt), record { run = run; against = against })

-- all may
pub run_of_all : (events : List EventRead) (k : ℕ) (s : SiteKept) (performed : ℕ) → length events ≤ k → IsRun Clearance MAX_WORKERS (map event_of (take k events)) → Shows s (site_of (map event_of (take k events))) → performed ≡ length s.performed.items
    → IsVerdictOn (map event_of events) (Run performed)
run_of_all events k s performed le run shows many = (
  subst (λ (es : List EventRead). IsRun Clearance MAX_WORKERS (map event_of es)) (all_taken events k le) run,
  many ∙ (sym (length-map s.performed.items handing_of) ∙ (ap length (sym shows.performed) ∙ ap (λ (es : List EventRead). length (site_of (map event_of es)).performed) (all_taken events k le))),
)
