-- The facts that each pass of a loop of `first_processes` keeps.
use Rattle.std.proofs.Common.{◌≡◌, map}
use Rattle.std.specs.Vec.{vec_capacity}
use Rattle.amo_sets.specs.Lists.{table}
use Rattle.amo_kk.specs.World.{first_process}
use Rattle.amo_world.specs.Processes.{process_of, AreInOrder}
use Rattle.amo_world.proofs.world.first_processes.Given as goal

abbrev pub invariant-loop-p : goal.invariant-loop-p
invariant-loop-p l =
    record {
      processes : map process_of l.processes.items ≡ table l.p (first_process l.givens);
      room : vec_capacity l.processes ≡ l.givens.workers;
      in_order : AreInOrder l.givens l.p l.processes.items;
    }
