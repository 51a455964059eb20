-- The facts that each pass of a loop of `ClosedFloor::drop` keeps.
use Rattle.std.proofs.Common.{◌≡◌, ℕ, ◌<◌, false, get_or}
use Rattle.std.specs.Mem.Slots.{slots_filled, slots_len}
use Rattle.std.specs.Mem.Slots.Ownership.{Filled}
use Rattle.amo_words.proofs.floor.ClosedFloor.drop.Given as goal

abbrev pub invariant-loop-i : goal.invariant-loop-i
invariant-loop-i g l = Filled (slots_filled l.closed.slots) l.i (slots_len l.closed.slots) × ((k : ℕ) → k < l.i → get_or (slots_filled l.closed.slots) k false ≡ false)
    × (slots_len l.closed.slots ≡ l.i-end)
