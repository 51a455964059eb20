-- The day that the lines of the input say together.
use Rattle.std.specs.Prelude.{◌≡◌, ℕ, ◌+◌, ◌-◌, ◌^◌, Bool, true, not, ◌==◌, ◌||◌, List, [], ◌∷◌, ◌++◌, length, map, fold, slice_index, Some, is_none}
use Rattle.std.specs.List.{flat_map, list_any, range_with_len}
use Rattle.std.specs.Str.Lines.{lines}
use Rattle.amo_example_payments.specs.declared.line.Line.{Line}
use Rattle.amo_example_payments.specs.declared.line.Line.TheVariants.{Workers, Steps, Limit, Pay}
use Rattle.amo_example_payments.specs.declared.day.Day.{Day}
use Rattle.amo_example_payments.specs.declared.day.payment.Payment.{Payment}
use Rattle.amo_example_payments.specs.declared.rounds.Crew.{Crew}
use Rattle.amo_example_payments.specs.Lines.{line_in}
use Rattle.amo_example_payments.specs.Sorting.{ids_of}
use Rattle.amo_params.specs.declared.limits.TheConstants.{MAX_STEPS}

-- the payments that a line adds, the next number being id
abbrev pub payments_in : ℕ → Line → List Payment
payments_in id (Pay account cents) = record { id = id; account = account; cents = cents } ∷ []
payments_in id line = []

-- the crew after a line: each line of workers or steps takes the place of those before
abbrev pub crew_after : Crew → Line → Crew
crew_after crew (Workers n) = record crew { workers = n }
crew_after crew (Steps n) = record crew { steps = n }
crew_after crew line = crew

-- the limit after a line
abbrev pub limit_after : ℕ → Line → ℕ
limit_after limit (Limit n) = n
limit_after limit line = limit

-- the numbers 1..n
abbrev pub numbers_upto : ℕ → List ℕ
numbers_upto n = map (λ k. k + 1) (range_with_len 0 n)

-- the payments are numbered from 1, in their order
abbrev pub AreNumbered : List Payment → Type 0
AreNumbered payments = ids_of payments ≡ numbers_upto (length payments)

-- The day c is the day b and one line more.
pub record IsDayWith (b : Day) (line : Line) (c : Day) : Type 0 where
  pub crew : c.crew ≡ crew_after b.crew line
  pub limit : c.limit ≡ limit_after b.limit line
  pub payments : c.payments.items ≡ b.payments.items ++ payments_in (length b.payments.items + 1) line

-- the accounts and amounts of the payments that a line adds
abbrev pub paid_in : Line → List (ℕ × ℕ)
paid_in line = map (λ p. (p.account, p.cents)) (payments_in 1 line)

-- the crew of a day without lines: one worker, and no limit
abbrev pub first_crew : Crew
first_crew = record { workers = 1; steps = MAX_STEPS }

-- The lines say this day: its crew and its limit are the last that are said, and its payments are
-- those that are said, in their order, numbered from 1.
pub record IsDay (said : List Line) (day : Day) : Type 0 where
  pub crew : day.crew ≡ fold crew_after first_crew said
  pub limit : day.limit ≡ fold limit_after (2 ^ 64 - 1) said
  pub payments : map (λ p. (p.account, p.cents)) day.payments.items ≡ flat_map paid_in said
  pub numbered : AreNumbered day.payments.items

-- The last line of a text has its end: a text that is not empty has a line feed as its last byte.
abbrev pub is_ended : List ℕ → Bool
is_ended text = (length text == 0) || (slice_index text (length text - 1) == 10)

-- The text says this day: each of its lines is a line, and none is cut off.
pub record IsDayOf (text : List ℕ) (day : Day) : Type 0 where
  pub ended : is_ended text ≡ true
  pub said : List Line
  pub lines_are : map line_in (lines text) ≡ map (λ line. Some line) said
  pub day_is : IsDay said day

-- some line of the text is invalid, or the last has no end
abbrev pub has_broken_line : List ℕ → Bool
has_broken_line text = list_any (λ line. is_none (line_in line)) (lines text) || not (is_ended text)
