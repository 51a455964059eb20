-- The facts that each pass of a loop of `make_moves` keeps.
use Rattle.std.proofs.Common.{◌≡◌, ◌++◌, ◌+◌, true, drop}
use Rattle.amo_params.specs.Moves.{are_in_range}
use Rattle.amo_kk.specs.World.{world_after_moves}
use Rattle.amo_trace.specs.Transitions.{transitions}
use Rattle.amo_trace.proofs.transitions.make_moves.Given as goal

-- the transitions so far and those of the moves to come are all transitions
abbrev pub invariant-loop-i : goal.invariant-loop-i
invariant-loop-i l =
    record {
      givens : l.world.givens ≡ l.fn.world.givens;
      in_range : are_in_range l.fn.world.givens (drop l.i l.moves) ≡ true;
      transitions : l.transitions.items ++ transitions l.fn.world.givens l.world.world (l.i + 1) (drop l.i l.moves) ≡ transitions l.fn.world.givens l.fn.world.world 1 l.moves;
      world : world_after_moves l.fn.world.givens l.world.world (drop l.i l.moves) ≡ world_after_moves l.fn.world.givens l.fn.world.world l.moves;
    }
