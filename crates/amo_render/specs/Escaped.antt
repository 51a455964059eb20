-- Bytes as they are printed.
use Rattle.std.specs.Prelude.{ℕ, ◌+◌, ◌/◌, ◌%◌, List, [], ◌∷◌, Bool, not, ◌&&◌, ◌==◌, nat_le, nat_lt, if◌then◌else◌}
use Rattle.std.specs.List.{flat_map}

-- the code of a lower-case hexadecimal digit
abbrev pub hex_digit : ℕ → ℕ
hex_digit n = if nat_lt n 10 then 48 + n else 87 + n

-- a printed character of ASCII other than `\`
abbrev pub is_plain : ℕ → Bool
is_plain b = nat_le 32 b && (nat_le b 126 && not (b == 92))

-- a plain byte stands for itself, any other is `\x` and its two hexadecimal digits
unfoldable pub escaped_byte : ℕ → List ℕ
escaped_byte b = if is_plain b then b ∷ [] else 92 ∷ 120 ∷ hex_digit (b / 16) ∷ hex_digit (b % 16) ∷ []

-- each byte of a text in its turn
abbrev pub escaped : List ℕ → List ℕ
escaped text = flat_map escaped_byte text
