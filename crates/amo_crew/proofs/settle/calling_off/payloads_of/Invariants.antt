-- The facts that each pass of a loop of `payloads_of` keeps.
use Rattle.std.proofs.Common.{◌≡◌, ◌≤◌, ◌+◌, ◌++◌, ℕ, map, length, vec_len, vec_capacity}
use Rattle.std.specs.Vec.Iter.{into_iter_items}
use Rattle.amo_crew.proofs.settle.calling_off.payloads_of.Given as goal

abbrev pub invariant-loop-payload : goal.invariant-loop-payload
invariant-loop-payload g l = (l.spare.items ++ map (λ (t : ℕ × g.row.P.Denot). t.1) (into_iter_items l.payload-iterator) ≡ map (λ (t : ℕ × g.row.P.Denot). t.1) l.fn.free.items) × (vec_len l.spare + length (into_iter_items l.payload-iterator) ≤ vec_capacity l.spare)
