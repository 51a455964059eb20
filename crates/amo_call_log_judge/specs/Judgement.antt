-- The answers to texts.
use Rattle.std.specs.Prelude.{◌≡◌, Vec, ℕ, List, ◌∷◌, ◌++◌, length, map, Result, Ok, Err}
use Rattle.std.specs.declared.alloc.Global.{Global}
use Rattle.amo_safety_by_journals.specs.Model.{Event}
use Rattle.amo_safety_by_journals.specs.Runs.{Clearance, IsRun}
use Rattle.amo_params.specs.declared.limits.TheConstants.{MAX_WORKERS}
use Rattle.amo_call_log_judge.specs.Against.{IsNoRun, performed_in}
use Rattle.amo_call_log_judge.specs.Events.{event_of}
use Rattle.amo_call_log_judge.specs.Grammar.{IsLog}
use Rattle.amo_call_log_judge.specs.Reading.{log_in}
use Rattle.amo_call_log_judge.specs.Telling.{no_run_text, refused_text, run_text}
use Rattle.amo_call_log_judge.specs.declared.event.Event.{Event as EventRead}
use Rattle.amo_call_log_judge.specs.declared.reason.Reason.{Reason}
use Rattle.amo_call_log_judge.specs.declared.verdict.Refusal.{Refusal}

-- the text is not a log, and this is the first line that is wrong, with the fault
pub record IsRefused (text : List ℕ) (refusal : Refusal) : Type 0 where
  pub no_log : (es : List Event) → IsLog text es → ⊥
  pub first : log_in text ≡ Err refusal

-- what was read of the text is so
abbrev pub IsRead : List ℕ → Result (Vec EventRead Global) Refusal → Type 0
IsRead text (Ok events) = IsLog text (map event_of events.items)
IsRead text (Err refusal) = IsRefused text refusal

-- what became of a text
pub data Outcome : Type 0 where
  -- it is the log of these events, and they are a run
  IsARun : (es : List Event) → Outcome
  -- it is the log of these events, of which the one in the middle is the first that may not follow
  IsNone : (before : List Event) (e : Event) (behind : List Event) (reason : Reason) → Outcome
  -- it is no log
  IsNoLog : (refusal : Refusal) → Outcome

-- this is the outcome of the text
abbrev pub IsOutcomeOf : List ℕ → Outcome → Type 0
IsOutcomeOf text (IsARun es) = IsLog text es × IsRun Clearance MAX_WORKERS es
IsOutcomeOf text (IsNone before e behind reason) = IsLog text (before ++ e ∷ behind) × IsNoRun before e reason
IsOutcomeOf text (IsNoLog refusal) = IsRefused text refusal

-- the answer
abbrev pub outcome_text : Outcome → List ℕ
outcome_text (IsARun es) = run_text (length es) (performed_in es)
outcome_text (IsNone before e behind reason) = no_run_text (length before) e reason
outcome_text (IsNoLog refusal) = refused_text refusal

-- the answer is the one to what became of the text
abbrev pub IsAnswer : List ℕ → List ℕ → Type 0
IsAnswer text answer = (outcome : Outcome) × IsOutcomeOf text outcome × (answer ≡ outcome_text outcome)

-- the text is the answer to each log of these events
abbrev pub AnswersLogOf : List Event → List ℕ → Type 0
AnswersLogOf es answer = (text : List ℕ) → IsLog text es → IsAnswer text answer
