-- `World::new`: what its type keeps, by the lemmas of Opening.
use Rattle.std.specs.Vec.{vec_capacity}
use Rattle.amo_world.proofs.Opening.{opening_kept}
use Rattle.amo_world.proofs.world.World.new.Goals as goal

pub invariant_of-result : goal.invariant_of-result
invariant_of-result c =
    opening_kept c.args.givens c.in_ok-processes.processes.items c.in_ok-history.history.items (vec_capacity c.in_ok-processes.processes) (vec_capacity c.in_ok-history.history) c.in_ok-processes.ensures.in_order
    (λ i. record { processes = c.in_ok-processes.ensures.processes i; history = c.in_ok-history.ensures.events i }) c.in_ok-processes.ensures.room c.in_ok-history.ensures.room
