-- Events in words.
use Rattle.std.specs.Prelude.{ℕ, List, ◌++◌, codes, length, count_by}
use Rattle.std.specs.Fmt.{decimal}
use Rattle.std.specs.Str.{bytes_eq}
use Rattle.amo_kk.specs.declared.event.Event.{Event}
use Rattle.amo_kk.specs.declared.event.Event.TheVariants.{Claimed, Done, Ended, Halted, Left}
use Rattle.amo_judge.specs.History.{HistoryView}
use Rattle.amo_judge.specs.Roll.{called}

-- the word for what happened
abbrev pub word_for : Event → List ℕ
word_for (Claimed p j) = codes "claimed"
word_for (Done p j) = codes "done"
word_for (Ended p) = codes "ended"
word_for (Halted p) = codes "halted"
word_for (Left p) = codes "left"

-- the worker to whom it happened
abbrev pub worker_of : Event → ℕ
worker_of (Claimed p j) = p
worker_of (Done p j) = p
worker_of (Ended p) = p
worker_of (Halted p) = p
worker_of (Left p) = p

-- `I WORD P J`
unfoldable pub pair_text : ℕ → List ℕ → List ℕ → List ℕ → List ℕ
pair_text number word worker job =
    decimal number ++ (codes " " ++ (word ++ (codes " " ++ (worker ++ (codes " " ++ job)))))

-- `I WORD P`
unfoldable pub lone_text : ℕ → List ℕ → List ℕ → List ℕ
lone_text number word worker =
    decimal number ++ (codes " " ++ (word ++ (codes " " ++ worker)))

-- the event, of this number, as it was read
abbrev pub event_text : HistoryView → ℕ → Event → List ℕ
event_text h number (Claimed p j) = pair_text number (codes "claimed") (called h.workers p) (called h.jobs j)
event_text h number (Done p j) = pair_text number (codes "done") (called h.workers p) (called h.jobs j)
event_text h number (Ended p) = lone_text number (codes "ended") (called h.workers p)
event_text h number (Halted p) = lone_text number (codes "halted") (called h.workers p)
event_text h number (Left p) = lone_text number (codes "left") (called h.workers p)

-- how many events have this word
abbrev pub count_for : List ℕ → List Event → ℕ
count_for word events = count_by (λ event. bytes_eq (word_for event) word) events

-- how many events a run has, and how many claims and dones
unfoldable pub worked_text : (events claimed done : ℕ) → List ℕ
worked_text events claimed done = codes "lawful\nevents " ++ (decimal events ++ (codes " claimed " ++ (decimal claimed ++ (codes " done " ++ decimal done))))

-- how many workers are gone, in which ways
unfoldable pub went_text : (ended halted left : ℕ) → List ℕ
went_text ended halted left = codes " ended " ++ (decimal ended ++ (codes " halted " ++ (decimal halted ++ (codes " left " ++ (decimal left ++ codes "\n")))))

-- the verdict on a run: how many events there are, and of each kind
abbrev pub lawful_text : List Event → List ℕ
lawful_text events =
    worked_text (length events) (count_for (codes "claimed") events) (count_for (codes "done") events)
    ++ went_text (count_for (codes "ended") events) (count_for (codes "halted") events) (count_for (codes "left") events)
