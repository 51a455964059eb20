-- Why an event is no step from the state that the events before it leave: the first test of a step
-- that fails.
use Rattle.std.specs.Prelude.{ℕ, ◌+◌, Bool, false, ◌==◌, if◌then◌else◌, List, [], ◌∷◌, ◌++◌, codes, length, Option, Some, None, option_map}
use Rattle.std.specs.Fmt.{decimal}
use Rattle.std.specs.Option.{option_or}
use Rattle.amo_params.specs.Givens.{bound, is_within}
use Rattle.amo_kk.specs.Run.{done_jobs}
use Rattle.amo_kk.specs.declared.event.Event.{Event}
use Rattle.amo_kk.specs.declared.event.Event.TheVariants.{Claimed, Done, Ended, Halted, Left}
use Rattle.amo_params.specs.declared.givens.Givens.{Givens}
use Rattle.amo_judge.specs.History.{HistoryView}
use Rattle.amo_judge.specs.Results.{found_or}
use Rattle.amo_judge.specs.Roll.{called}
use Rattle.amo_judge.specs.Telling.{worker_of}
use Rattle.amo_judge.specs.declared.reasons.Reason.{Reason}
use Rattle.amo_judge.specs.declared.reasons.Reason.TheVariants.{NoWorker, Gone, NoJob, InHand, NotInHand, ClaimedBefore, Early}

-- by this event worker p is gone
abbrev pub is_end_of : ℕ → Event → Bool
is_end_of p (Claimed q j) = false
is_end_of p (Done q j) = false
is_end_of p (Ended q) = q == p
is_end_of p (Halted q) = q == p
is_end_of p (Left q) = q == p

-- by this event job j is claimed
abbrev pub is_claim_of : ℕ → Event → Bool
is_claim_of j (Claimed q i) = i == j
is_claim_of j event = false

-- the first event that passes the test, and its number, if the first event has this number
abbrev pub first_from : (Event → Bool) → ℕ → List Event → Option (ℕ × Event)
first_from test number [] = None
first_from test number (e ∷ es) = if test e then Some (number, e) else first_from test (number + 1) es

-- the job in the hand of worker p after these events, and the number of the event that gave it. The
-- first event has this number, and this was in its hand before
abbrev pub hand_from : ℕ → Option (ℕ × ℕ) → ℕ → List Event → Option (ℕ × ℕ)
hand_from p hand number [] = hand
hand_from p hand number (Claimed q j ∷ es) = hand_from p (if q == p then Some (j, number) else hand) (number + 1) es
hand_from p hand number (Done q j ∷ es) = hand_from p (if q == p then None else hand) (number + 1) es
hand_from p hand number (Ended q ∷ es) = hand_from p hand (number + 1) es
hand_from p hand number (Halted q ∷ es) = hand_from p hand (number + 1) es
hand_from p hand number (Left q ∷ es) = hand_from p hand (number + 1) es

-- the event by which a worker is gone
abbrev pub end_of : ℕ → List Event → Option (ℕ × Event)
end_of p events = first_from (is_end_of p) 1 events

-- the event by which a job is claimed
abbrev pub claim_of : ℕ → List Event → Option (ℕ × Event)
claim_of j events = first_from (is_claim_of j) 1 events

-- the job in a worker's hand, and the event since which it is there
abbrev pub hand_of : ℕ → List Event → Option (ℕ × ℕ)
hand_of p events = hand_from p None 1 events

-- the job that was found in a hand, or 0
abbrev pub hand_job : Option (ℕ × ℕ) → ℕ
hand_job None = 0
hand_job (Some found) = found.0

-- the way in which the event ended a worker's steps
abbrev pub gone_words : Event → List ℕ
gone_words (Ended q) = codes "had ended"
gone_words (Halted q) = codes "was halted"
gone_words (Left q) = codes "had left"
gone_words event = []

-- that a worker was gone before, if it was
abbrev pub gone_reason : ℕ → List Event → Option Reason
gone_reason p before = option_map (λ found. Gone p found.1 found.0) (end_of p before)

-- that a worker has a job in its hand, if it has
abbrev pub hand_reason : ℕ → List Event → Option Reason
hand_reason p before = option_map (λ found. InHand p found.0 found.1) (hand_of p before)

-- that a job was claimed before, if it was
abbrev pub claim_reason : ℕ → List Event → Option Reason
claim_reason j before = option_map (λ found. ClaimedBefore j (worker_of found.1) found.0) (claim_of j before)

-- the reason that the event is no step, if its worker exists: the first test of a step that fails.
-- The last test, if it is reached, is known to fail
abbrev pub reason_here : Givens → List Event → Event → Option Reason
reason_here g before (Claimed p j) = if is_within g.jobs j then option_or (hand_reason p before) (claim_reason j before) else Some (NoJob j)
reason_here g before (Done p j) = if is_within g.jobs j then Some (NotInHand p j) else Some (NoJob j)
reason_here g before (Ended p) = option_or (hand_reason p before) (Some (Early (length (done_jobs before)) (bound g)))
reason_here g before (Halted p) = None
reason_here g before (Left p) = hand_reason p before

-- the reason that the event, of worker p, is no step after these
abbrev pub reason_of : Givens → List Event → ℕ → Event → Option Reason
reason_of g before p event = if is_within g.workers p then option_or (gone_reason p before) (reason_here g before event) else Some (NoWorker p)

-- `worker P doesn't have job J in its hand`
unfoldable pub not_in_hand_text : List ℕ → List ℕ → List ℕ
not_in_hand_text worker job =
    codes "worker " ++ (worker ++ (codes " doesn't have job " ++ (job ++ codes " in its hand")))

-- `job J was claimed by worker P in event I`
unfoldable pub claimed_text : List ℕ → List ℕ → ℕ → List ℕ
claimed_text job worker number =
    codes "job " ++ (job ++ (codes " was claimed by worker " ++ (worker ++ (codes " in event " ++ decimal number))))

-- `R jobs are performed, and a worker may end by its own choice from Q on`
unfoldable pub early_text : ℕ → ℕ → List ℕ
early_text performed least =
    decimal performed ++ (codes " jobs are performed, and a worker may end by its own choice from " ++ (decimal least ++ codes " on"))

-- the reason in words, with the names of this history
unfoldable pub reason_text : HistoryView → Reason → List ℕ
reason_text h (NoWorker p) = codes "there is no worker " ++ called h.workers p
reason_text h (Gone p event number) =
    codes "worker " ++ (called h.workers p ++ (codes " " ++ (gone_words event ++ (codes " in event " ++ decimal number))))
reason_text h (NoJob j) = codes "there is no job " ++ called h.jobs j
reason_text h (InHand p j number) =
    codes "worker " ++ (called h.workers p ++ (codes " has job " ++ (called h.jobs j ++ (codes " in its hand since event " ++ decimal number))))
reason_text h (NotInHand p j) = not_in_hand_text (called h.workers p) (called h.jobs j)
reason_text h (ClaimedBefore j p number) = claimed_text (called h.jobs j) (called h.workers p) number
reason_text h (Early performed least) = early_text performed least

-- the reason that the event, of worker p, is no step after these, in words
abbrev pub why_of : HistoryView → List Event → ℕ → Event → List ℕ
why_of h before p event = found_or (reason_of h.givens before p event) (λ reason. reason_text h reason) []

-- the reason that the event is no step after these, in words; the event names its worker
abbrev pub why : HistoryView → List Event → Event → List ℕ
why h before event = why_of h before (worker_of event) event
