-- The registers of a round, as they are opened.
use Rattle.std.specs.Prelude.{ℕ, List, Option, option_map}
use Rattle.amo_host.specs.declared.model.Registers.{Registers}

-- How many bytes the file has, and the first ones.
abbrev pub file_of : Option Registers → Option (ℕ × List ℕ)
file_of registers = option_map (λ r. (r.len, r.front.items)) registers
