-- Numbers of a range.
use Rattle.std.specs.Prelude.{ℕ, nat_le, Option, Some, None, option_and_then, if◌then◌else◌}

-- the number, if it is at most this
abbrev pub at_most : ℕ → Option ℕ → Option ℕ
at_most high number = option_and_then (λ n. if nat_le n high then Some n else None) number

-- the number, if it is at least this
abbrev pub at_least : ℕ → Option ℕ → Option ℕ
at_least low number = option_and_then (λ n. if nat_le low n then Some n else None) number

-- the number, if it is within this range
abbrev pub within : ℕ → ℕ → Option ℕ → Option ℕ
within low high number = at_least low (at_most high number)
