-- The words of a schedule, and the moves of each.
use Rattle.std.specs.Prelude.{ℕ, ◌+◌, List, [], ◌∷◌, length, slice_index, take, drop, filter, position, Bool, not, ◌&&◌, ◌||◌, ◌==◌, nat_le, Option, Some, None, option_map, Result, Ok, if◌then◌else◌, replicate}
use Rattle.std.specs.List.{slice_split, flat_map}
use Rattle.amo_params.specs.declared.moves.Move.{Move}
use Rattle.amo_params.specs.declared.moves.Move.TheVariants.{Turn, Halt, Leave}
use Rattle.amo_plan.specs.declared.fault.PlanFault.{PlanFault}
use Rattle.amo_plan.specs.declared.fault.PlanFault.TheVariants.{BadScheduleWord, NoSuchWorker, TooLong}
use Rattle.amo_plan.specs.declared.limits.TheConstants.{HIGHEST_IN_WORD, MOST_MOVES}
use Rattle.amo_plan.specs.declared.schedule_word.ScheduleWord.{ScheduleWord}
use Rattle.amo_plan.specs.declared.schedule_word.ScheduleWord.TheVariants.{Turns, Stop, Departure}
use Rattle.amo_decimal.specs.Numbers.{number_in}
use Rattle.amo_plan.specs.Digits.{within}
use Rattle.amo_plan.specs.Passing.{◌>>=◌, or_fault, unless, each}

-- space, tab, LF, CR
abbrev pub is_space : ℕ → Bool
is_space b = b == 32 || b == 9 || b == 10 || b == 13

-- what has a character
abbrev pub is_word : List ℕ → Bool
is_word w = not (length w == 0)

-- the words of a text
abbrev pub words_of : List ℕ → List (List ℕ)
words_of text = filter is_word (slice_split is_space text)

-- a number of 1 to the highest that a word may have
unfoldable pub number_of : List ℕ → Option ℕ
number_of text = within 1 HIGHEST_IN_WORD (number_in text)

-- so many turns, if both numbers are there
abbrev pub turns_of : Option ℕ → Option ℕ → Option ScheduleWord
turns_of (Some k) (Some c) = Some (Turns k c)
turns_of _ _ = None

-- an x begins the stop of a worker
abbrev pub is_x : ℕ → Bool
is_x b = b == 120

-- an asterisk parts a worker from its count
abbrev pub is_asterisk : ℕ → Bool
is_asterisk b = b == 42

-- a number; or two, if there is an asterisk
abbrev pub turns_at : Option ℕ → List ℕ → Option ScheduleWord
turns_at None w = turns_of (number_of w) (Some 1)
turns_at (Some i) w = turns_of (number_of (take i w)) (number_of (drop (i + 1) w))

-- turns of a worker
unfoldable pub turns_word : List ℕ → Option ScheduleWord
turns_word w = turns_at (position is_asterisk w) w

-- an l begins a word of version 2
abbrev pub is_l : ℕ → ℕ → Bool
is_l version b = version == 2 && b == 108

-- x and a number, in version 2 l and a number, a number, or two numbers parted by an asterisk
unfoldable pub word_of : ℕ → List ℕ → Option ScheduleWord
word_of version w =
    if is_x (slice_index w 0)
    then option_map Stop (number_of (drop 1 w))
    else (if is_l version (slice_index w 0) then option_map Departure (number_of (drop 1 w)) else turns_word w)

-- the worker that a word names
abbrev pub worker_of : ScheduleWord → ℕ
worker_of (Turns k c) = k
worker_of (Stop k) = k
worker_of (Departure k) = k

-- the i-th word, of workers up to m
unfoldable pub word_at : ℕ → ℕ → ℕ → List ℕ → Result ScheduleWord PlanFault
word_at version m i w = or_fault (word_of version w) (BadScheduleWord i) >>= λ word. unless (nat_le (worker_of word) m) (NoSuchWorker i) (Ok word)

-- what the words say
abbrev pub read_words : ℕ → ℕ → List (List ℕ) → Result (List ScheduleWord) PlanFault
read_words version m ws = each (word_at version m) 1 ws

-- the moves that a word is
abbrev pub moves_of_word : ScheduleWord → List Move
moves_of_word (Turns k c) = replicate c (Turn k)
moves_of_word (Stop k) = Halt k ∷ []
moves_of_word (Departure k) = Leave k ∷ []

-- the moves of the words, one after the other
abbrev pub moves_of : List ScheduleWord → List Move
moves_of ws = flat_map moves_of_word ws

-- the moves of the words, of which a plan has not too many
unfoldable pub short_moves_of : List ScheduleWord → Result (List Move) PlanFault
short_moves_of ws = unless (nat_le (length (moves_of ws)) MOST_MOVES) TooLong (Ok (moves_of ws))

-- the moves of a text, of workers up to m
unfoldable pub read_schedule : ℕ → ℕ → List ℕ → Result (List Move) PlanFault
read_schedule version m text = do
  words ← read_words version m (words_of text)
  short_moves_of words
