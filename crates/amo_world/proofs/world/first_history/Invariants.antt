-- The facts that each pass of a loop of `first_history` keeps.
use Rattle.std.proofs.Common.{◌≡◌, ◌+◌, ◌*◌, length}
use Rattle.std.specs.Vec.{vec_capacity}
use Rattle.amo_sets.specs.Lists.{table}
use Rattle.amo_kk.specs.declared.event.Event.TheVariants.{Ended}
use Rattle.amo_world.proofs.world.first_history.Given as goal

abbrev pub invariant-loop-p : goal.invariant-loop-p
invariant-loop-p l =
    record {
      events : l.history.items ≡ table l.p (λ p. Ended p);
      size : length l.history.items ≡ l.p;
      room : vec_capacity l.history ≡ 2 * l.fn.givens.jobs + l.fn.givens.workers;
    }
