-- The events that are read of a text, line by line.
use Rattle.std.specs.Prelude.{◌≡◌, Vec, ℕ, ◌+◌, ◌-◌, nat_lt, ◌==◌, if◌then◌else◌, List, [], ◌∷◌, ◌++◌, codes, length, take, slice_index_or, Result, Ok, Err}
use Rattle.std.specs.Option.{ok_or}
use Rattle.std.specs.declared.alloc.Global.{Global}
use Rattle.amo_decimal.specs.Numbers.{number_in as number_said}
use Rattle.amo_params.specs.declared.limits.TheConstants.{MAX_WORKERS}
use Rattle.amo_call_log_judge.specs.Lines.{parts_of, words_of, word_at, has_word}
use Rattle.amo_call_log_judge.specs.Results.{next}
use Rattle.amo_call_log_judge.specs.declared.event.Event.{Event}
use Rattle.amo_call_log_judge.specs.declared.event.Event.TheVariants.{Begins, Dies, Lands, Intends, Looks, HandsOver, Performs, Ends, Opens}
use Rattle.amo_call_log_judge.specs.declared.verdict.Refusal.{Refusal}
use Rattle.amo_call_log_judge.specs.declared.verdict.Wrong.{Wrong}
use Rattle.amo_call_log_judge.specs.declared.verdict.Wrong.TheVariants.{NoEvent, NoNumber, WorkerBeyond, NoLineFeed}

-- the number that a word says
abbrev pub number_in : List ℕ → Result ℕ Wrong
number_in word = ok_or (number_said word) NoNumber

-- the number, if it is one of a worker
abbrev pub as_worker : ℕ → Result ℕ Wrong
as_worker number = if nat_lt MAX_WORKERS number then Err WorkerBeyond else Ok number

-- the worker that a word names
abbrev pub worker_in : List ℕ → Result ℕ Wrong
worker_in word = next (number_in word) (λ number. as_worker number)

-- the numbers that two words say
abbrev pub numbers_in : List ℕ → List ℕ → Result (ℕ × ℕ) Wrong
numbers_in one other = next (number_in one) (λ a. next (number_in other) (λ b. Ok (a, b)))

-- what is made of the worker and the number in two words
abbrev pub with_number : List (List ℕ) → (ℕ → ℕ → Event) → Result Event Wrong
with_number words make = next (worker_in (word_at words 1)) (λ p. next (number_in (word_at words 2)) (λ n. Ok (make p n)))

-- the event of a line of two words
abbrev pub event_of_two : List (List ℕ) → Result Event Wrong
event_of_two words =
    if has_word 2 (codes "begins") words then next (worker_in (word_at words 1)) (λ p. Ok (Begins p))
    else (if has_word 2 (codes "dies") words then next (worker_in (word_at words 1)) (λ p. Ok (Dies p))
    else (if has_word 2 (codes "hands-over") words then next (worker_in (word_at words 1)) (λ p. Ok (HandsOver p))
    else (if has_word 2 (codes "ends") words then next (number_in (word_at words 1)) (λ i. Ok (Ends i))
    else Err NoEvent)))

-- the event of a line of three words
abbrev pub event_of_three : List (List ℕ) → Result Event Wrong
event_of_three words =
    if has_word 3 (codes "lands") words then with_number words (λ p line. Lands p line)
    else (if has_word 3 (codes "intends") words then with_number words (λ p line. Intends p line)
    else (if has_word 3 (codes "looks") words then next (worker_in (word_at words 1)) (λ p. next (worker_in (word_at words 2)) (λ q. Ok (Looks p q)))
    else (if has_word 3 (codes "opens") words then with_number words (λ p serial. Opens (record { worker = p; serial = serial }))
    else Err NoEvent)))

-- the event of a line of four words
abbrev pub event_of_four : List (List ℕ) → Result Event Wrong
event_of_four words =
    if has_word 4 (codes "performs") words then next (worker_in (word_at words 1)) (λ p. next (numbers_in (word_at words 2) (word_at words 3)) (λ n. Ok (Performs (record { worker = p; serial = n.0; line = n.1 }))))
    else Err NoEvent

-- the event of these words
abbrev pub event_in : List (List ℕ) → Result Event Wrong
event_in words =
    if length words == 2 then event_of_two words
    else (if length words == 3 then event_of_three words
    else event_of_four words)

-- what is wrong with a line, with its number
abbrev pub on_line : {A : Type 0} → ℕ → Result A Wrong → Result A Refusal
on_line number (Ok x) = Ok x
on_line number (Err wrong) = Err (record { line = number; wrong = wrong })

-- these events and those of the lines, or the first line that has none
abbrev pub events_from : List Event → List (List ℕ) → Result (List Event) Refusal
events_from es [] = Ok es
events_from es (line ∷ lines) = next (on_line (length es + 1) (event_in (words_of line))) (λ e. events_from (es ++ e ∷ []) lines)

-- the events, if the text ends with its last line feed
abbrev pub if_ended : List ℕ → List Event → Result (List Event) Refusal
if_ended [] es = Ok es
if_ended (b ∷ bs) es = Err (record { line = length es + 1; wrong = NoLineFeed })

-- the events of these parts of a text, the last of which follows the last line feed
abbrev pub events_of_parts : List (List ℕ) → Result (List Event) Refusal
events_of_parts parts = next (events_from [] (take (length parts - 1) parts)) (λ es. if_ended (slice_index_or parts (length parts - 1) []) es)

-- the events of a text, or the first line that is not one of a log
abbrev pub log_in : List ℕ → Result (List Event) Refusal
log_in text = events_of_parts (parts_of text)

-- the events, or the refusal, are these
abbrev pub AreEvents : Result (List Event) Refusal → Result (Vec Event Global) Refusal → Type 0
AreEvents read (Ok events) = read ≡ Ok events.items
AreEvents read (Err refusal) = read ≡ Err refusal
