-- The next step on a result.
use Rattle.std.specs.Prelude.{Option, Some, None, Result, Ok, Err}

-- the value of the next step, unless an earlier one refused
abbrev pub next : {A B E : Type 0} → Result A E → (A → Result B E) → Result B E
next (Ok x) step = step x
next (Err e) step = Err e

-- the function's value if something was found, or else this one
abbrev pub found_or : {A B : Type 0} → Option A → (A → B) → B → B
found_or (Some x) make other = make x
found_or None make other = other
