-- The facts that each pass of a loop of `World::in_range` keeps.
use Rattle.std.proofs.Common.{◌≡◌, drop}
use Rattle.amo_params.specs.Moves.{are_in_range}
use Rattle.amo_world.proofs.world.World.in_range.Given as goal

abbrev pub invariant-loop-one : goal.invariant-loop-one
invariant-loop-one l = are_in_range l.self.givens (drop l.one-index l.moves) ≡ are_in_range l.self.givens l.moves
