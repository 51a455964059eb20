-- The messages of a worker to its partner, a line each.
use Rattle.std.specs.Prelude.{◌≡◌, ℕ, List, [], ◌∷◌, ◌++◌, codes}
use Rattle.std.specs.Fmt.{decimal}
use Rattle.amo_journal.specs.Texts.{IsOneLine}

-- a word, the serial number of an intent, the number of its line, and the text of it, one blank
-- between each two; then a line feed
abbrev pub job_line : List ℕ → ℕ → ℕ → List ℕ → List ℕ
job_line word serial line text = word ++ (codes " " ++ (decimal serial ++ (codes " " ++ (decimal line ++ (codes " " ++ (text ++ 10 ∷ []))))))

-- perform this job
abbrev pub perform_text : ℕ → ℕ → List ℕ → List ℕ
perform_text serial line text = job_line (codes "perform") serial line text

-- what became of this job?
abbrev pub was_text : ℕ → ℕ → List ℕ → List ℕ
was_text serial line text = job_line (codes "was") serial line text

-- the worker has done its part of the round: may it stay for the next one?
abbrev pub over_text : List ℕ
over_text = codes "over\n"

-- one line, and its end
abbrev pub IsOneEndedLine : List ℕ → Type 0
IsOneEndedLine said = (line : List ℕ) × (said ≡ line ++ 10 ∷ []) × IsOneLine line
