-- The lines of a history and of its workers.
use Rattle.std.specs.Prelude.{ℕ, ◌+◌, List, [], ◌∷◌, ◌++◌, count_by, codes}
use Rattle.std.specs.Fmt.{decimal}
use Rattle.amo_kk.specs.declared.event.Event.{Event}
use Rattle.amo_kk.specs.declared.event.Event.TheVariants.{Claimed, Done, Ended, Halted, Left}
use Rattle.amo_render.specs.Happened.{is_claim_of, is_done_of, state_of}

-- `I claimed P J`, `I done P J`, `I ended P`, `I halted P` or `I left P`
unfoldable pub event_line : ℕ → Event → List ℕ
event_line i (Claimed p j) = decimal i ++ codes " claimed " ++ decimal p ++ codes " " ++ decimal j ++ codes "\n"
event_line i (Done p j) = decimal i ++ codes " done " ++ decimal p ++ codes " " ++ decimal j ++ codes "\n"
event_line i (Ended p) = decimal i ++ codes " ended " ++ decimal p ++ codes "\n"
event_line i (Halted p) = decimal i ++ codes " halted " ++ decimal p ++ codes "\n"
event_line i (Left p) = decimal i ++ codes " left " ++ decimal p ++ codes "\n"

-- a line for each event, numbered from i
abbrev pub event_lines : ℕ → List Event → List ℕ
event_lines i [] = []
event_lines i (e ∷ es) = event_line i e ++ event_lines (i + 1) es

-- `worker P STATE turns T claimed C done D`
unfoldable pub worker_line : List Event → ℕ → ℕ → List ℕ
worker_line history p turns =
    codes "worker " ++ decimal p ++ codes " " ++ state_of p history ++ codes " turns " ++ decimal turns
    ++ codes " claimed " ++ decimal (count_by (is_claim_of p) history)
    ++ codes " done " ++ decimal (count_by (is_done_of p) history) ++ codes "\n"

-- a line for each worker, numbered from p, with its number of turns
abbrev pub worker_lines : List Event → ℕ → List ℕ → List ℕ
worker_lines history p [] = []
worker_lines history p (t ∷ ts) = worker_line history p t ++ worker_lines history (p + 1) ts
