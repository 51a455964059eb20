-- A sink over memory, as contracts see it.
use Rattle.std.specs.Prelude.{ℕ, ◌≡◌, ◌<◌, List, Bool, length}

-- a sink over memory as contracts see it: its bytes, its room, and whether a write has failed
pub record RoomSeen : Type 0 where
  -- what it holds
  pub bytes : List ℕ
  -- how many bytes it can hold
  pub room : ℕ
  -- whether a write has failed
  pub failed : Bool

-- the buffer has some bytes, and the sink can hold no more
abbrev pub HasNoRoomFor : RoomSeen → List ℕ → Type 0
HasNoRoomFor r buf = (0 < length buf) × (length r.bytes ≡ r.room)
