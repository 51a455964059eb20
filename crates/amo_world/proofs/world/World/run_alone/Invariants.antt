-- The facts that each pass of a loop of `World::run_alone` keeps.
use Rattle.std.proofs.Common.{◌≡◌, ◌-◌, ◌≤◌}
use Rattle.amo_params.specs.Givens.{lone_bound}
use Rattle.amo_world.proofs.Resting.{IsUnderWay}
use Rattle.amo_world.proofs.world.World.run_alone.Given as goal

abbrev pub invariant-loop-j : goal.invariant-loop-j
invariant-loop-j l =
    record {
      few : l.left ≤ lone_bound l.fn.self.givens;
      givens : l.self.givens ≡ l.fn.self.givens;
      way : IsUnderWay l.fn.self.givens l.fn.self.world l.p (lone_bound l.fn.self.givens - l.left) l.self.world;
    }

abbrev pub decreases-loop-j : goal.decreases-loop-j
decreases-loop-j l = l.left
