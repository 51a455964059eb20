-- The head of the words of a round: `HEAD_LEN` bytes that say which round it is.
use Rattle.std.specs.Prelude.{ℕ, ◌-◌, nat_lt, List, [], ◌∷◌, ◌++◌, codes, decimal, length, replicate, Option, Some, None, if◌then◌else◌}
use Rattle.amo_run_log.specs.Texts.{ended}
use Rattle.amo_run_files.specs.Records.{RecordView}
use Rattle.amo_run_files.specs.declared.head.TheConstants.{HEAD_LEN}

-- its lines
abbrev pub head_lines : RecordView → List (List ℕ)
head_lines r =
    codes "amo-words 2" ∷ ((codes "round " ++ decimal r.round) ∷ ((codes "boot " ++ r.boot)
    ∷ ((codes "givens " ++ (decimal r.givens.jobs ++ (codes " " ++ (decimal r.givens.workers ++ (codes " " ++ decimal r.givens.beta))))) ∷ [])))

-- its text
abbrev pub head_text : RecordView → List ℕ
head_text r = ended (head_lines r)

-- the text, with blanks after it and a line feed as the last byte of a head, if it has fewer bytes
-- than that
abbrev pub filled_up : List ℕ → Option (List ℕ)
filled_up text = if nat_lt (length text) HEAD_LEN then Some (text ++ (replicate (HEAD_LEN - 1 - length text) 32 ++ 10 ∷ [])) else None

-- the head
abbrev pub head_of : RecordView → Option (List ℕ)
head_of r = filled_up (head_text r)
