-- The scale of a picture of jobs: down are the moves, to the right the jobs. `last` is the number
-- of the last row.
use Rattle.std.specs.Prelude.{ℕ, ◌+◌, ◌-◌, ◌*◌, ◌/◌, max, List, length, Option, Some, None, slice_get, nat_lt, if◌then◌else◌}
use Rattle.amo_trace.specs.declared.transition.Transition.{Transition}

-- the number of a transition, or 1 without a transition
abbrev pub number_in : Option Transition → ℕ
number_in None = 1
number_in (Some s) = s.number

-- the number of the last row, at least 1
abbrev pub last_number : List Transition → ℕ
last_number rows = max (number_in (slice_get rows (length rows - 1))) 1

-- how far down move i is
abbrev pub at : ℕ → ℕ → ℕ
at last i = 72 + 960 * i / last

-- how far down the end of a transition goes: so far below its move, or to the foot without a
-- transition
abbrev pub end_of : ℕ → ℕ → Option Transition → ℕ
end_of last below None = 1032
end_of last below (Some s) = at last s.number + below

-- how far to the right the middle of the column of job j of n is
abbrev pub place : ℕ → ℕ → ℕ
place n j = 72 + 768 * (2 * j - 1) / (2 * n)

-- how wide a column is
abbrev pub wide : ℕ → ℕ
wide n = 768 / n + 1

-- the greatest power of ten that is at most v, from 1 to 10000
abbrev pub power : ℕ → ℕ
power v =
    if nat_lt v 10 then 1 else
    if nat_lt v 100 then 10 else
    if nat_lt v 1000 then 100 else
    if nat_lt v 10000 then 1000 else 10000

-- how far apart the numbers on an axis are that goes up to this one: an eighth, and up to the next
-- multiple of such a power
abbrev pub grid_step : ℕ → ℕ
grid_step last = last / 8 / power (last / 8) * power (last / 8) + power (last / 8)

-- the place of the lane of worker p
abbrev pub narrow_lane : ℕ → ℕ
narrow_lane p = 848 + 36 * p

-- how far down the marks of the jobs stand that worker p has claimed; those of the jobs of nobody
-- follow the last worker's
abbrev pub band : ℕ → ℕ
band p = 1052 + 14 * p
