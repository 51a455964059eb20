-- The numbers of events.
use Rattle.std.specs.Prelude.{ℕ, zero, suc, List, slice_get, Option, None}
use Rattle.amo_kk.specs.declared.event.Event.{Event}

-- the event of this number, if there is one; the first event has number 1
abbrev pub event_at : List Event → ℕ → Option Event
event_at events zero = None
event_at events (suc k) = slice_get events k
