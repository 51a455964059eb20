-- A log of calls, as contracts see it.
use Rattle.std.specs.Prelude.{ℕ, Bool}

-- a log over a writer of std
pub record LogSeen (W : Type 0) : Type 0 where
  -- the writer that takes the lines
  pub out : W
  -- the process that calls
  pub process : ℕ
  -- the number of its worker; 0 for an operator's command
  pub worker : ℕ
  -- whether a line could not be written, and nobody has taken the reason
  pub has_failed : Bool
