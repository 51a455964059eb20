-- The facts that each pass of a loop of `came_over` keeps.
use Rattle.std.proofs.Common.{◌≡◌, ℕ, Some, length, slice_get}
use Rattle.amo_sim_disk.specs.Tearing.{IsOldOrNew}
use Rattle.amo_sim_disk.proofs.tearing.came_over.Given as goal

abbrev pub invariant-loop-i : goal.invariant-loop-i
invariant-loop-i l =
    (length l.bytes.items ≡ l.i)
    × ((k b : ℕ) → slice_get l.bytes.items k ≡ Some b → IsOldOrNew (slice_get l.stood k) (slice_get l.reads k) b)
