-- Which bytes a write may leave that a crash tore.
use Rattle.std.specs.Prelude.{◌≡◌, ◌⊎◌, ℕ, Option, Some, None}

-- such a byte, by the one that stood there and the one that was to stand there: one of the two; or
-- 0 if none stood there
abbrev pub IsOldOrNew : Option ℕ → Option ℕ → ℕ → Type 0
IsOldOrNew stood new byte = (stood ≡ Some byte) ⊎ ((new ≡ Some byte) ⊎ ((stood ≡ None) × (byte ≡ 0)))
