-- A text that is the log of a run has this outcome alone.
use Rattle.std.proofs.Common.{◌≡◌, ◌<◌, ℕ, List, [], ◌∷◌, ◌++◌, length, map, get_or, sym, ap, ◌∙◌, subst, arith}
use Rattle.std.proofs.lemmas.List.{length-map}
use Rattle.amo_safety_by_journals.specs.Model.{Event, first_site}
use Rattle.amo_safety_by_journals.specs.Runs.{Clearance, IsRun}
use Rattle.amo_params.specs.declared.limits.TheConstants.{MAX_WORKERS}
use Rattle.amo_call_log_judge.specs.Against.{IsVerdictOn}
use Rattle.amo_call_log_judge.specs.Events.{event_of}
use Rattle.amo_call_log_judge.specs.Grammar.{IsLog}
use Rattle.amo_call_log_judge.specs.Judgement.{outcome_text, AnswersLogOf, Outcome, IsARun, IsNone, IsNoLog, IsAnswer, IsOutcomeOf, IsRefused}
use Rattle.amo_call_log_judge.specs.Telling.{no_run_text, refused_text, run_text}
use Rattle.amo_call_log_judge.specs.declared.event.Event.{Event as EventRead}
use Rattle.amo_call_log_judge.specs.declared.reason.Reason.{Reason}
use Rattle.amo_call_log_judge.specs.declared.reason.Verdict.TheVariants.{Run, NoRun}
use Rattle.amo_call_log_judge.specs.declared.verdict.Refusal.{Refusal}
use Rattle.amo_call_log_judge.proofs.Logs.{same_log}
use Rattle.amo_call_log_judge.proofs.Refuted.{refuted}
use Rattle.amo_call_log_judge.proofs.Runs.{run_at}

only_run : (text : List ℕ) (es : List Event) (o : Outcome) → IsLog text es → IsRun Clearance MAX_WORKERS es → IsOutcomeOf text o → o ≡ IsARun es
only_run text es (IsARun fs) log run is = ap IsARun (same_log text fs es is.0 log)
only_run text es (IsNone before e behind reason) log run is =
    absurd (refuted _ e reason is.1.against (run_at Clearance MAX_WORKERS first_site before e behind (subst (IsRun Clearance MAX_WORKERS) (same_log text es (before ++ e ∷ behind) log is.0) run)))
only_run text es (IsNoLog refusal) log run is = absurd (is.no_log es log)

pub called_a_run : (text answer : List ℕ) (es : List Event) → IsLog text es → IsRun Clearance MAX_WORKERS es → IsAnswer text answer → answer ≡ outcome_text (IsARun es)
called_a_run text answer es log run is = is.2 ∙ ap outcome_text (only_run text es is.0 log run is.1)

-- ---- the answers to verdicts

-- the event at a place of a log
pub event_at : (events : List EventRead) (before : List Event) (e : Event) (behind : List Event) (d : EventRead) → map event_of events ≡ before ++ e ∷ behind → event_of (get_or events (length before) d) ≡ e
event_at [] [] e behind d is = absurd (cc)
event_at [] (b ∷ before) e behind d is = absurd (cc)
event_at (x ∷ events) [] e behind d is = cc
event_at (x ∷ events) (b ∷ before) e behind d is = event_at events before e behind d (rest is)
  where
    rest : event_of x ∷ map event_of events ≡ b ∷ (before ++ e ∷ behind) → map event_of events ≡ before ++ e ∷ behind
    rest same = cc

place_within : (events : List EventRead) (before : List Event) (e : Event) (behind : List Event) → map event_of events ≡ before ++ e ∷ behind → length before < length events
place_within [] [] e behind is = absurd (cc)
place_within [] (b ∷ before) e behind is = absurd (cc)
place_within (x ∷ events) [] e behind is = omega arith
place_within (x ∷ events) (b ∷ before) e behind is = let within = place_within events before e behind (rest is) in omega (arith, within)
  where
    rest : event_of x ∷ map event_of events ≡ b ∷ (before ++ e ∷ behind) → map event_of events ≡ before ++ e ∷ behind
    rest same = cc

pub index_within : (events : List EventRead) (index : ℕ) (reason : Reason) → IsVerdictOn (map event_of events) (NoRun index reason) → index < length events
index_within events index reason v = subst (λ (n : ℕ). n < length events) (sym v.4) (place_within events v.0 v.1 v.2 v.3)

pub run_answer : (events : List EventRead) (performed : ℕ) (answer : List ℕ) → IsVerdictOn (map event_of events) (Run performed) → answer ≡ run_text (length events) performed → AnswersLogOf (map event_of events) answer
run_answer events performed answer v told text log =
    (IsARun (map event_of events), (log, v.0), told ∙ (ap (λ (n : ℕ). run_text n performed) (sym (length-map events event_of)) ∙ ap (run_text (length (map event_of events))) v.1))

pub no_run_answer : (events : List EventRead) (index : ℕ) (reason : Reason) (answer : List ℕ) (d : EventRead) → IsVerdictOn (map event_of events) (NoRun index reason) → answer ≡ no_run_text index (event_of (get_or events index d)) reason → AnswersLogOf (map event_of events) answer
no_run_answer events index reason answer d v told text log = (
  IsNone v.0 v.1 v.2 reason,
  (subst (IsLog text) v.3 log, v.5),
  told ∙ (ap (λ (n : ℕ). no_run_text n (event_of (get_or events n d)) reason) v.4 ∙ ap (λ (e : Event). no_run_text (length v.0) e reason) (event_at events v.0 v.1 v.2 d v.3)),
)

pub refused_answer : (text : List ℕ) (refusal : Refusal) (answer : List ℕ) → IsRefused text refusal → answer ≡ refused_text refusal → IsAnswer text answer
refused_answer text refusal answer refused told = (IsNoLog refusal, refused, told)
