-- The facts that each pass of a loop of `write_items` keeps.
use Rattle.std.proofs.Common.{◌≡◌, take, drop}
use Rattle.std.specs.Prelude.{map}
use Rattle.amo_c.specs.Batch.{item_told}
use Rattle.amo_c.proofs.item.write_items.Given as goal

abbrev pub invariant-loop-k : goal.invariant-loop-k
invariant-loop-k l =
    record {
      told : take l.k l.places ≡ map item_told (take l.k l.batch);
      beyond : drop l.k l.places ≡ drop l.k l.initial.places;
    }
