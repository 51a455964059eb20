-- The grammar of a journal, by its entries alone. The serial numbers of the intents count from 1
-- without a gap. Each intent is of one of the lines 1..count. Each answer belongs to an intent
-- before it that has no answer yet.
use Rattle.std.specs.Prelude.{◌≡◌, ◌≤◌, ℕ, ◌+◌, Bool, false, ◌==◌, ◌||◌, List, [], ◌∷◌, ◌++◌}
use Rattle.amo_run_log.specs.declared.entry.Entry.{Entry}
use Rattle.amo_run_log.specs.declared.entry.Entry.TheVariants.{Intent, Answer as Answered}

-- one for an intent
abbrev pub intent_in : Entry → ℕ
intent_in (Intent serial line time) = 1
intent_in (Answered serial answer) = 0

-- how many intents
abbrev pub intents : List Entry → ℕ
intents [] = 0
intents (entry ∷ entries) = intent_in entry + intents entries

-- whether the entry answers the intent of this serial number
abbrev pub answers : ℕ → Entry → Bool
answers intent (Intent serial line time) = false
answers intent (Answered serial answer) = serial == intent

-- whether one of the entries does
abbrev pub is_answered : ℕ → List Entry → Bool
is_answered intent [] = false
is_answered intent (entry ∷ entries) = answers intent entry || is_answered intent entries

-- there is such an intent, and it has no answer
pub record IsPending (serial : ℕ) (entries : List Entry) : Type 0 where
  pub from_1 : 1 ≤ serial
  pub there : serial ≤ intents entries
  pub unanswered : is_answered serial entries ≡ false

-- it is the next intent, of one of the lines 1..count
pub record IsNext (count : ℕ) (serial line : ℕ) (before : List Entry) : Type 0 where
  pub in_turn : serial ≡ intents before + 1
  pub line_from_1 : 1 ≤ line
  pub line_there : line ≤ count

-- the entry may follow those before it
abbrev pub MayFollow : ℕ → List Entry → Entry → Type 0
MayFollow count before (Intent serial line time) = IsNext count serial line before
MayFollow count before (Answered serial answer) = IsPending serial before

-- each may follow those before it
abbrev pub FollowFrom : ℕ → List Entry → List Entry → Type 0
FollowFrom count before [] = Unit {0}
FollowFrom count before (entry ∷ entries) = MayFollow count before entry × FollowFrom count (before ++ entry ∷ []) entries

-- the entries are a journal
abbrev pub IsJournal : ℕ → List Entry → Type 0
IsJournal count entries = FollowFrom count [] entries
