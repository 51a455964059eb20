-- The texts that are ids of runs.
use Rattle.std.specs.Prelude.{ℕ, Bool, true, ◌&&◌, ◌||◌, ◌==◌, nat_le, List, [], ◌∷◌, length}

-- a hexadecimal digit, no letter a capital
abbrev pub is_hex : ℕ → Bool
is_hex byte = (nat_le 48 byte && nat_le byte 57) || (nat_le 97 byte && nat_le byte 102)

-- hexadecimal digits alone, no letter a capital
abbrev pub are_hex : List ℕ → Bool
are_hex [] = true
are_hex (b ∷ bytes) = is_hex b && are_hex bytes

-- the text of an id
abbrev pub is_id : List ℕ → Bool
is_id text = are_hex text && (length text == 32)
