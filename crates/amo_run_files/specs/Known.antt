-- Within this crate: a set of lines.
use Rattle.std.specs.Prelude.{◌≡◌, ℕ, List}
use Rattle.std.specs.BTreeSet.{BTreeSet}
use Rattle.std.specs.Borrow.{Bor}
use Rattle.std.specs.List.{list_any}
use Rattle.std.specs.Str.{bytes_eq}

-- it has a line equal to another exactly if one of these is
abbrev pub HasJust : BTreeSet (Bor (List ℕ)) → List (List ℕ) → Type 0
HasJust known lines = (line : List ℕ) → list_any (λ (k : Bor (List ℕ)). bytes_eq line k.now) known.keys ≡ list_any (bytes_eq line) lines
