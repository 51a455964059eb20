-- A reader or a writer with its marks, as contracts see it.
use Rattle.std.specs.Prelude.{Bool}

-- a source or a sink over a stream of std, as contracts see it
pub record StreamedSeen (S : Type 0) : Type 0 where
  -- the reader or the writer
  pub inner : S
  -- whether some bytes that were written wait for a flush
  pub waiting : Bool
  -- whether a read, a write or a flush has failed
  pub failed : Bool
