-- Steps that follow on a result.
use Rattle.std.specs.Prelude.{Result, Ok, Err}

-- what the next step makes of it, if it isn't refused
abbrev pub next : {A B E : Type 0} → Result A E → (A → Result B E) → Result B E
next (Ok x) step = step x
next (Err e) step = Err e
