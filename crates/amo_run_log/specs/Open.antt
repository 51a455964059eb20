-- The lines that are open: closing wins.
use Rattle.std.specs.Prelude.{slice_get, ◌⊎◌, ◌≡◌, ◌≢◌, ℕ, zero, suc, ◌+◌, Bool, true, false, not, ◌&&◌, ◌||◌, ◌==◌, List, [], ◌∷◌, ◌++◌, map, Option, Some, None}
use Rattle.std.specs.List.{AllByRecursion, filter, range_with_len}
use Rattle.amo_run_log.specs.declared.entry.Outcome.{Outcome}
use Rattle.amo_run_log.specs.declared.entry.Outcome.TheVariants.{Done, Doubt, Unbegun, Untouched}
use Rattle.amo_run_log.specs.declared.entry.Entry.{Entry}
use Rattle.amo_run_log.specs.declared.entry.Entry.TheVariants.{Intent, Answer as Answered}
use Rattle.amo_run_log.specs.declared.finding.Finding.{Finding}
use Rattle.amo_run_log.specs.declared.journal.Attempt.{Attempt}
use Rattle.amo_run_log.specs.Findings.{is_undone}

-- whether an answer opens the line again
abbrev pub opens : Outcome → Bool
opens (Done code time) = false
opens (Doubt time) = false
opens Unbegun = true
opens (Untouched code time) = false

-- whether what is known of an intent opens its line again
abbrev pub reopens : Option Outcome → Bool
reopens None = false
reopens (Some answer) = opens answer

-- whether this intent closes the line
abbrev pub closes : List Finding → ℕ → ℕ → Attempt → ℕ → Bool
closes findings worker serial e line = (e.line == line) && not (reopens e.answer || is_undone findings worker serial)

-- whether one of these intents does, the first of them of this serial number
abbrev pub any_closes : List Finding → ℕ → ℕ → List Attempt → ℕ → Bool
any_closes findings worker serial [] line = false
any_closes findings worker serial (e ∷ es) line = closes findings worker serial e line || any_closes findings worker (serial + 1) es line

-- whether one of these journals does, the first of them of this worker
abbrev pub closed_by : List Finding → ℕ → List (List Attempt) → ℕ → Bool
closed_by findings worker [] line = false
closed_by findings worker (es ∷ journals) line = any_closes findings worker 1 es line || closed_by findings (worker + 1) journals line

-- a line is open if no intent of it, in any journal, closes it
abbrev pub is_open : List Finding → List (List Attempt) → ℕ → Bool
is_open findings journals line = not (closed_by findings 1 journals line)

-- the numbers 1..count
abbrev pub numbers : ℕ → List ℕ
numbers count = map (λ k. k + 1) (range_with_len 0 count)

-- the open lines of 1..count, in order
abbrev pub open_lines : List Finding → List (List Attempt) → ℕ → List ℕ
open_lines findings journals count = filter (is_open findings journals) (numbers count)

-- it opens no line: an intent, or an answer other than that it was not begun
abbrev pub OpensNone : Entry → Type 0
OpensNone (Intent serial line time) = Unit {0}
OpensNone (Answered serial answer) = opens answer ≡ false

-- it doesn't open the line of this intent
abbrev pub OpensNot : ℕ → Entry → Type 0
OpensNot intent (Intent serial line time) = Unit {0}
OpensNot intent (Answered serial answer) = opens answer ≡ true → serial ≢ intent

-- it is an answer
abbrev pub IsAnswer : Entry → Type 0
IsAnswer (Intent serial line time) = ⊥
IsAnswer (Answered serial answer) = Unit {0}

-- the intent to which it belongs
abbrev pub serial_of : Entry → ℕ
serial_of (Intent serial line time) = serial
serial_of (Answered serial answer) = serial

-- the intent at this index is of this line
abbrev pub IsAtIndex : List Attempt → ℕ → ℕ → Type 0
IsAtIndex [] i line = ⊥
IsAtIndex (e ∷ es) zero line = e.line ≡ line
IsAtIndex (e ∷ es) (suc i) line = IsAtIndex es i line

-- the intent of this serial number is of this line
abbrev pub IsOfLine : List Attempt → ℕ → ℕ → Type 0
IsOfLine es zero line = ⊥
IsOfLine es (suc i) line = IsAtIndex es i line

-- no entry says that this intent was not begun
abbrev pub NoneOpens : ℕ → List Entry → Type 0
NoneOpens intent entries = AllByRecursion (OpensNot intent) entries

-- among the entries is an intent of this serial number and line, and no later one opens it
abbrev pub HasIntent : ℕ → ℕ → List Entry → Type 0
HasIntent serial line entries = (front : List Entry) × (time : ℕ) × (back : List Entry) × (entries ≡ front ++ Intent serial line time ∷ back) × NoneOpens serial back

-- each intent of the line, in each journal, is answered by one that opens it, or was found not done
abbrev pub IsOpen : List Finding → List (List Attempt) → ℕ → Type 0
IsOpen findings journals line = (p s : ℕ) (es : List Attempt) (e : Attempt) → slice_get journals p ≡ Some es → slice_get es s ≡ Some e → e.line ≡ line
    → (reopens e.answer ≡ true) ⊎ (is_undone findings (p + 1) (s + 1) ≡ true)
