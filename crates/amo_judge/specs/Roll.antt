-- The names of workers or jobs.
use Rattle.std.specs.Prelude.{ℕ, ◌+◌, ◌-◌, ◌^◌, Bool, ◌||◌, nat_lt, ◌==◌, if◌then◌else◌, List, [], ◌∷◌, ◌++◌, length, slice_index_or, Option, Some, None, option_and_then, Result, Ok, Err}
use Rattle.std.specs.Fmt.{decimal}
use Rattle.std.specs.List.{position_or_len}
use Rattle.std.specs.Option.{ok_or}
use Rattle.std.specs.Str.{bytes_eq, is_utf8}
use Rattle.amo_decimal.specs.Numbers.{number_in}
use Rattle.amo_judge.specs.Results.{next, found_or}
use Rattle.amo_judge.specs.declared.refusal.Wrong.{Wrong}
use Rattle.amo_judge.specs.declared.roll.TheConstants.{LONGEST_NAME}
use Rattle.amo_judge.specs.declared.refusal.Wrong.TheVariants.{NoEvent}

-- whether they have names, and those that came so far, in the order in which they first did
pub record RollView : Type 0 where
  pub named : Bool
  pub words : List (List ℕ)

-- a roll without words
abbrev pub empty_roll : Bool → RollView
empty_roll named = record { named = named; words = [] }

-- the number below 2 to the 32 that a word says
abbrev pub small_number_in : List ℕ → Option ℕ
small_number_in word = option_and_then (λ n. if nat_lt n (2 ^ 32) then Some n else None) (number_in word)

-- the bytes, if they are text
abbrev pub text_in : List ℕ → Option (List ℕ)
text_in bytes = if is_utf8 bytes then Some bytes else None

-- a name is text of 1 to `LONGEST_NAME` bytes
abbrev pub name_in : List ℕ → Option (List ℕ)
name_in word = if (length word == 0) || nat_lt LONGEST_NAME (length word) then None else text_in word

-- the place of the name among these, or their number if it isn't there
abbrev pub place_in : List ℕ → List (List ℕ) → ℕ
place_in name words = position_or_len (λ word. bytes_eq name word) words

-- a place as a number from 1, if there are at most so many
abbrev pub number_at : ℕ → Wrong → ℕ → Result ℕ Wrong
number_at most beyond place = if nat_lt place most then Ok (place + 1) else Err beyond

-- the number for which a word stands. Without names it is the one that the word says. With names it
-- is the name's place, from 1, among the names that came so far, or the next one, if there are at
-- most so many
abbrev pub number_on : RollView → ℕ → Wrong → List ℕ → Result ℕ Wrong
number_on roll most beyond word =
    if roll.named
    then next (ok_or (name_in word) NoEvent) (λ name. number_at most beyond (place_in name roll.words))
    else ok_or (small_number_in word) NoEvent

-- the roll with a name that came, once
abbrev pub with_name : RollView → List ℕ → RollView
with_name roll name =
    if place_in name roll.words == length roll.words then record { named = roll.named; words = roll.words ++ name ∷ [] } else roll

-- the roll with a word that came
abbrev pub with_word : RollView → List ℕ → RollView
with_word roll word = if roll.named then found_or (name_in word) (λ name. with_name roll name) roll else roll

-- the name of the worker or job of this number
abbrev pub called : RollView → ℕ → List ℕ
called roll number = if roll.named then slice_index_or roll.words (number - 1) [] else decimal number
