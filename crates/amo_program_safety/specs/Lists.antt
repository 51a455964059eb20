-- The texts of the lines that are performed. The rules of runs have line numbers alone: a read of
-- the lines may give any texts. The definitions here state that all reads are of one list.
use Rattle.std.specs.Prelude.{◌≡◌, ⊤, ℕ, ◌<◌, ◌^◌, List, [], ◌∷◌, length, Option, Some}
use Rattle.amo_safety_by_journals.specs.Model.{IsOneOf}
use Rattle.amo_host.specs.Calls.{JobsAre}
use Rattle.amo_run_files.specs.Jobs.{line_of}
use Rattle.amo_program_safety.specs.World.{Event, HandsOver, Calls}
use Rattle.amo_program_safety.specs.Machine.{Step, Happens}

-- Each of these lines is the line of the list that has the same number.
abbrev pub AreLinesOf : (list lines : List (List ℕ)) → Type 0
AreLinesOf list lines = (line : ℕ) (text : List ℕ) → line_of lines line ≡ Some text → line_of list line ≡ Some text

-- If this step ends a read of the lines that the run knows, the read gives lines of the list.
abbrev pub ReadsLinesOf : (list : List (List ℕ)) → Step → Type 0
ReadsLinesOf list (Happens (Calls process (JobsAre last lines))) = AreLinesOf list lines
ReadsLinesOf list s = ⊤

-- Each of these steps reads lines of the list, if it reads lines.
abbrev pub AllReadLinesOf : (list : List (List ℕ)) → List Step → Type 0
AllReadLinesOf list [] = ⊤
AllReadLinesOf list (s ∷ steps) = ReadsLinesOf list s × AllReadLinesOf list steps

-- The number of each line of the list has at most 64 bits.
abbrev pub HasFewLines : (list : List (List ℕ)) → Type 0
HasFewLines list = length list < 2 ^ 64

-- No two lines of the list have the same text.
abbrev pub HasNoTwoEqual : (list : List (List ℕ)) → Type 0
HasNoTwoEqual list = (line other : ℕ) (text : List ℕ) → line_of list line ≡ Some text → line_of list other ≡ Some text → line ≡ other

-- No text is in this list of texts twice.
abbrev pub AreDistinctTexts : List (Option (List ℕ)) → Type 0
AreDistinctTexts [] = ⊤
AreDistinctTexts (x ∷ xs) = (IsOneOf xs x → ⊥) × AreDistinctTexts xs

-- The texts that processes hand over in these events, in their order.
abbrev pub texts_handed : List Event → List (List ℕ)
texts_handed [] = []
texts_handed (HandsOver process serial line text ∷ es) = text ∷ texts_handed es
texts_handed (e ∷ es) = texts_handed es
