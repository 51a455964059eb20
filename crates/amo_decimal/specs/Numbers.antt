-- Numbers in texts: decimal digits, each number written in one way.
use Rattle.std.specs.Prelude.{ℕ, ◌^◌, Bool, ◌&&◌, ◌||◌, nat_lt, List, ◌==◌, length, slice_index, Option, Some, None, if◌then◌else◌}
use Rattle.std.specs.Str.{all_ascii_digits}
use Rattle.std.specs.Str.Parse.{digits_value}

-- the bytes begin with a digit from 1 on, or are 0 alone
abbrev pub begins_strictly : List ℕ → Bool
begins_strictly text = nat_lt 48 (slice_index text 0) || ((slice_index text 0 == 48) && (length text == 1))

-- digits alone, no more than needed, of a number of 64 bits
abbrev pub is_number : List ℕ → Bool
is_number text = begins_strictly text && (all_ascii_digits text && nat_lt (digits_value 10 text) (2 ^ 64))

-- the number that a text says
abbrev pub number_in : List ℕ → Option ℕ
number_in text = if is_number text then Some (digits_value 10 text) else None
