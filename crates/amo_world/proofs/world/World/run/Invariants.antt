-- The facts that each pass of a loop of `World::run` keeps.
use Rattle.std.proofs.Common.{◌≡◌, true, drop}
use Rattle.amo_params.specs.Moves.{are_in_range}
use Rattle.amo_kk.specs.World.{world_after_moves}
use Rattle.amo_world.proofs.world.World.run.Given as goal

abbrev pub invariant-loop-one : goal.invariant-loop-one
invariant-loop-one l =
    record {
      givens : l.self.givens ≡ l.initial.self.givens;
      in_range : are_in_range l.initial.self.givens (drop l.one-index l.moves) ≡ true;
      world : world_after_moves l.initial.self.givens l.self.world (drop l.one-index l.moves) ≡ world_after_moves l.initial.self.givens l.initial.self.world l.moves;
    }
