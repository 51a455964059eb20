-- The intents that close a line: none of them stands open, and one exists exactly if the line is
-- closed.
use Rattle.std.proofs.Common.{◌≡◌, ℕ, ◌+◌, Bool, true, false, cond, ◌&&◌, ◌||◌, List, [], ◌∷◌, ◌++◌, Option, Some, None, refl, ap, ◌∙◌}
use Rattle.std.specs.Prelude.{not, ◌==◌}
use Rattle.std.specs.List.{AllByRecursion, filter}
use Rattle.amo_run_log.specs.declared.entry.Outcome.{Outcome}
use Rattle.amo_run_log.specs.declared.entry.Outcome.TheVariants.{Done as Ended, Doubt as Unknown, Unbegun, Untouched as Idle}
use Rattle.amo_run_log.specs.declared.finding.Finding.{Finding}
use Rattle.amo_run_log.specs.declared.journal.Attempt.{Attempt}
use Rattle.amo_run_log.specs.Findings.{is_undone}
use Rattle.amo_run_log.specs.Open.{reopens, closes, any_closes, closed_by}
use Rattle.amo_status.specs.declared.standing.LineStatus.{LineStatus}
use Rattle.amo_status.specs.declared.state.AttemptId.{AttemptId}
use Rattle.amo_status.specs.declared.state.State.TheVariants.{Open, Done, Failed, Running}
use Rattle.amo_status.specs.States.{is, is_among, is_found_done, state_by, state_of}
use Rattle.amo_status.specs.Standings.{standing_by, if_closing, closing_in, closing, foremost, deciding}

-- an intent stands open just where its line was opened again

by_parts : (answer : Option Outcome) (undone found final : Bool) → is Open (cond (reopens answer || undone) Open (cond found Done (state_by final answer))) ≡ (reopens answer || undone)
by_parts None true found final = refl
by_parts None false true final = refl
by_parts None false false true = refl
by_parts None false false false = refl
by_parts (Some (Ended code time)) true found final = refl
by_parts (Some (Ended code time)) false true final = refl
by_parts (Some (Ended code time)) false false final = by_code (code == 0)
  where
    by_code : (b : Bool) → is Open (cond b Done Failed) ≡ false
    by_code true = refl
    by_code false = refl
by_parts (Some (Unknown time)) true found final = refl
by_parts (Some (Unknown time)) false true final = refl
by_parts (Some (Unknown time)) false false final = refl
by_parts (Some Unbegun) undone found final = refl
by_parts (Some (Idle code time)) true found final = refl
by_parts (Some (Idle code time)) false true final = refl
by_parts (Some (Idle code time)) false false final = refl

pub open_state : (findings : List Finding) (finals : List AttemptId) (worker serial : ℕ) (answer : Option Outcome) → is Open (state_of findings finals worker serial answer) ≡ (reopens answer || is_undone findings worker serial)
open_state findings finals worker serial answer = by_parts answer (is_undone findings worker serial) (is_found_done findings worker serial) (is_among finals worker serial)

-- what holds of all

pub all_append : (P : LineStatus → Type 0) (xs ys : List LineStatus) → AllByRecursion P xs → AllByRecursion P ys → AllByRecursion P (xs ++ ys)
all_append P [] ys x y = y
all_append P (s ∷ xs) ys x y = (x.0, all_append P xs ys x.1 y)

all_filter : (P : LineStatus → Type 0) (p : LineStatus → Bool) (xs : List LineStatus) → AllByRecursion P xs → AllByRecursion P (filter p xs)
all_filter P p [] x = tt
all_filter P p (s ∷ xs) x = by_test (p s) (all_filter P p xs x.1)
  where
    by_test : (b : Bool) → AllByRecursion P (filter p xs) → AllByRecursion P (cond b (s ∷ filter p xs) (filter p xs))
    by_test true rest = (x.0, rest)
    by_test false rest = rest

all_foremost : (P : LineStatus → Type 0) (ys : List LineStatus) (x : LineStatus) (xs : List LineStatus) → AllByRecursion P ys → P x → P (foremost (ys ++ x ∷ xs))
all_foremost P [] x xs y h = h
all_foremost P (s ∷ ys) x xs y h = y.0

-- whether there is one
abbrev pub has_some : List LineStatus → Bool
has_some [] = false
has_some (s ∷ ss) = true

pub all_deciding : (P : LineStatus → Type 0) (xs : List LineStatus) → AllByRecursion P xs → has_some xs ≡ true → P (deciding xs)
all_deciding P [] all some = absurd (cc)
all_deciding P (x ∷ xs) all some = all_foremost P (filter (λ (s : LineStatus). is Running s.state) (x ∷ xs)) x xs (all_filter P (λ (s : LineStatus). is Running s.state) (x ∷ xs) all) all.0

-- none stands open

abbrev pub IsClosed : LineStatus → Type 0
IsClosed s = is Open s.state ≡ false

abbrev pub AllClosed : List LineStatus → Type 0
AllClosed ss = AllByRecursion IsClosed ss

module _ (findings : List Finding) (finals : List AttemptId) (line : ℕ) where
  if_closed : (worker serial : ℕ) (e : Attempt) → AllClosed (if_closing findings finals worker serial e line)
  if_closed worker serial e = by_test (e.line == line) (reopens e.answer || is_undone findings worker serial) (open_state findings finals worker serial e.answer)
    where
      by_test : (of_line opened : Bool) → is Open (state_of findings finals worker serial e.answer) ≡ opened → AllClosed (cond (of_line && not opened) (standing_by findings finals worker serial e ∷ []) [])
      by_test false opened h = tt
      by_test true true h = tt
      by_test true false h = (h, tt)

  closed_in : (worker serial : ℕ) (es : List Attempt) → AllClosed (closing_in findings finals worker serial es line)
  closed_in worker serial [] = tt
  closed_in worker serial (e ∷ es) =
      all_append IsClosed (if_closing findings finals worker serial e line) (closing_in findings finals worker (serial + 1) es line) (if_closed worker serial e) (closed_in worker (serial + 1) es)

  pub all_closed : (worker : ℕ) (journals : List (List Attempt)) → AllClosed (closing findings finals worker journals line)
  all_closed worker [] = tt
  all_closed worker (es ∷ journals) =
      all_append IsClosed (closing_in findings finals worker 1 es line) (closing findings finals (worker + 1) journals line) (closed_in worker 1 es) (all_closed (worker + 1) journals)

-- one exists exactly if the line is closed

has_append : (xs ys : List LineStatus) → has_some (xs ++ ys) ≡ (has_some xs || has_some ys)
has_append [] ys = refl
has_append (s ∷ xs) ys = refl

module _ (findings : List Finding) (finals : List AttemptId) (line : ℕ) where
  has_if : (worker serial : ℕ) (e : Attempt) → has_some (if_closing findings finals worker serial e line) ≡ closes findings worker serial e line
  has_if worker serial e = by_test (closes findings worker serial e line)
    where
      by_test : (b : Bool) → has_some (cond b (standing_by findings finals worker serial e ∷ []) []) ≡ b
      by_test true = refl
      by_test false = refl

  has_in : (worker serial : ℕ) (es : List Attempt) → has_some (closing_in findings finals worker serial es line) ≡ any_closes findings worker serial es line
  has_in worker serial [] = refl
  has_in worker serial (e ∷ es) =
      has_append (if_closing findings finals worker serial e line) (closing_in findings finals worker (serial + 1) es line)
      ∙ ap (λ b. b || has_some (closing_in findings finals worker (serial + 1) es line)) (has_if worker serial e)
      ∙ ap (λ b. closes findings worker serial e line || b) (has_in worker (serial + 1) es)

  pub has_closing : (worker : ℕ) (journals : List (List Attempt)) → has_some (closing findings finals worker journals line) ≡ closed_by findings worker journals line
  has_closing worker [] = refl
  has_closing worker (es ∷ journals) =
      has_append (closing_in findings finals worker 1 es line) (closing findings finals (worker + 1) journals line)
      ∙ ap (λ b. b || has_some (closing findings finals (worker + 1) journals line)) (has_in worker 1 es)
      ∙ ap (λ b. any_closes findings worker 1 es line || b) (has_closing (worker + 1) journals)

open_deciding : (xs : List LineStatus) → AllClosed xs → is Open (deciding xs).state ≡ not (has_some xs)
open_deciding [] closed = refl
open_deciding (x ∷ xs) closed = all_deciding IsClosed (x ∷ xs) closed refl

-- a line stands open exactly if no intent closes it
pub open_just : (findings : List Finding) (finals : List AttemptId) (line worker : ℕ) (journals : List (List Attempt)) → is Open (deciding (closing findings finals worker journals line)).state ≡ not (closed_by findings worker journals line)
open_just findings finals line worker journals =
    open_deciding (closing findings finals worker journals line) (all_closed findings finals line worker journals)
    ∙ ap not (has_closing findings finals line worker journals)
