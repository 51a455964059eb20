-- Which texts are lawful, unlawful or neither, in words of their lines and of runs alone.
use Rattle.std.specs.Prelude.{◌≡◌, ℕ, ◌≤◌, List, ◌++◌, length, Ok}
use Rattle.amo_kk.specs.Object.{first_object}
use Rattle.amo_kk.specs.Run.{IsRun, IsFirstBad}
use Rattle.amo_judge.specs.History.{HistoryView, history_in}
use Rattle.amo_judge.specs.declared.judging.TheConstants.{MOST_BYTES}
use Rattle.amo_judge.specs.Lines.{lines_of}

-- the text begins with this front
abbrev pub BeginsWith : List ℕ → List ℕ → Type 0
BeginsWith front text = (rest : List ℕ) × (text ≡ front ++ rest)

-- the text isn't too long, and its lines tell this history
pub record Tells (text : List ℕ) (h : HistoryView) : Type 0 where
  pub short : length text ≤ MOST_BYTES
  pub told : history_in (lines_of text) ≡ Ok h

-- the text is a history whose events are a run
pub record IsLawfulText (text : List ℕ) : Type 0 where
  pub history : HistoryView
  pub told : Tells text history
  pub run : IsRun history.givens (first_object history.givens) history.events

-- the text is a history in which the event of this number is the first that is no step
pub record IsUnlawfulText (text : List ℕ) (number : ℕ) : Type 0 where
  pub history : HistoryView
  pub told : Tells text history
  pub bad : IsFirstBad history.givens (first_object history.givens) history.events number
