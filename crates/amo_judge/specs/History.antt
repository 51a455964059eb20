-- The events of a history, read line by line.
use Rattle.std.specs.Prelude.{ℕ, ◌+◌, Bool, ◌&&◌, ◌==◌, if◌then◌else◌, List, [], ◌∷◌, ◌++◌, codes, length, take, Result, Ok, Err}
use Rattle.std.specs.Option.{ok_or}
use Rattle.amo_kk.specs.declared.event.Event.{Event}
use Rattle.amo_kk.specs.declared.event.Event.TheVariants.{Claimed, Done, Ended, Halted, Left}
use Rattle.amo_params.specs.declared.givens.Givens.{Givens}
use Rattle.amo_decimal.specs.Numbers.{number_in}
use Rattle.amo_judge.specs.FirstLine.{opening_in}
use Rattle.amo_judge.specs.Lines.{words_of, word_at, says_at, told}
use Rattle.amo_judge.specs.Results.{next}
use Rattle.amo_judge.specs.Roll.{RollView, empty_roll, number_on, with_word}
use Rattle.amo_judge.specs.declared.first_line.Opening.{Opening}
use Rattle.amo_judge.specs.declared.refusal.Refusal.{Refusal}
use Rattle.amo_judge.specs.declared.refusal.Wrong.{Wrong}
use Rattle.amo_judge.specs.declared.refusal.Wrong.TheVariants.{NoFirstLine, NoEvent, NotDue, WorkerBeyond, JobBeyond}

-- the givens, the names of workers and jobs, and the events
pub record HistoryView : Type 0 where
  pub givens : Givens
  pub workers : RollView
  pub jobs : RollView
  pub events : List Event

-- a history without events
abbrev pub first_history : Opening → HistoryView
first_history opening = record { givens = opening.givens; workers = empty_roll opening.named; jobs = empty_roll opening.named; events = [] }

-- the number that is due, if it is this one
abbrev pub if_due : ℕ → ℕ → Result ℕ Wrong
if_due due number = if number == due then Ok number else Err (NotDue due)

-- the number of an event that is due, if the word says it
abbrev pub due_in : ℕ → List ℕ → Result ℕ Wrong
due_in due word = next (ok_or (number_in word) NoEvent) (λ number. if_due due number)

-- the worker that a word names
abbrev pub worker_in : HistoryView → List ℕ → Result ℕ Wrong
worker_in h word = number_on h.workers h.givens.workers (WorkerBeyond h.givens.workers) word

-- the job that a word names
abbrev pub job_in : HistoryView → List ℕ → Result ℕ Wrong
job_in h word = number_on h.jobs h.givens.jobs (JobBeyond h.givens.jobs) word

-- the worker of an event, whose number is due: `I WORD P ..`
abbrev pub worker_due : HistoryView → List (List ℕ) → Result ℕ Wrong
worker_due h words = next (due_in (length h.events + 1) (word_at words 0)) (λ number. worker_in h (word_at words 2))

-- the worker and the job of an event, whose number is due: `I WORD P J`
abbrev pub pair_due : HistoryView → List (List ℕ) → Result (ℕ × ℕ) Wrong
pair_due h words = next (worker_due h words) (λ p. next (job_in h (word_at words 3)) (λ j. Ok (p, j)))

-- so many words, of which the second is this one
abbrev pub has_word : ℕ → List ℕ → List (List ℕ) → Bool
has_word count word words = (length words == count) && says_at words 1 word

-- the event of a line of these words
abbrev pub event_in : HistoryView → List (List ℕ) → Result Event Wrong
event_in h words =
    if has_word 4 (codes "claimed") words then next (pair_due h words) (λ w. Ok (Claimed w.0 w.1))
    else (if has_word 4 (codes "done") words then next (pair_due h words) (λ w. Ok (Done w.0 w.1))
    else (if has_word 3 (codes "ended") words then next (worker_due h words) (λ p. Ok (Ended p))
    else (if has_word 3 (codes "halted") words then next (worker_due h words) (λ p. Ok (Halted p))
    else (if has_word 3 (codes "left") words then next (worker_due h words) (λ p. Ok (Left p))
    else Err NoEvent))))

-- the names of jobs after a line of these words
abbrev pub jobs_after : RollView → List (List ℕ) → RollView
jobs_after jobs words = if length words == 4 then with_word jobs (word_at words 3) else jobs

-- the history with one event more, which these words name
abbrev pub with_event : HistoryView → List (List ℕ) → Event → HistoryView
with_event h words event =
    record { givens = h.givens; workers = with_word h.workers (word_at words 2); jobs = jobs_after h.jobs words; events = h.events ++ event ∷ [] }

-- the history with the event of a line of these words more
abbrev pub with_words : HistoryView → List (List ℕ) → Result HistoryView Wrong
with_words h words = next (event_in h words) (λ event. Ok (with_event h words event))

-- the history with the event of a line more
abbrev pub with_line : HistoryView → List ℕ → Result HistoryView Wrong
with_line h line = with_words h (words_of line)

-- the fault of a line, with the line's number
abbrev pub on_line : {A : Type 0} → ℕ → Result A Wrong → Result A Refusal
on_line number (Ok x) = Ok x
on_line number (Err wrong) = Err (record { line = number; wrong = wrong })

-- the history with the event of each of these lines more; the line of the first event is the second
abbrev pub with_lines : HistoryView → List (List ℕ) → Result HistoryView Refusal
with_lines h [] = Ok h
with_lines h (line ∷ lines) = next (on_line (length h.events + 2) (with_line h line)) (λ more. with_lines more lines)

-- the history of the lines after the first, up to the one that ends it
abbrev pub lines_behind : Opening → List (List ℕ) → Result HistoryView Refusal
lines_behind opening lines = with_lines (first_history opening) (take (told lines) lines)

-- the history of these lines, up to the first that ends it
abbrev pub history_in : List (List ℕ) → Result HistoryView Refusal
history_in [] = Err (record { line = 1; wrong = NoFirstLine })
history_in (first ∷ lines) = next (on_line 1 (opening_in (words_of first))) (λ opening. lines_behind opening lines)
