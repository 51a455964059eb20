-- The facts that each pass of a loop of `add_rows` keeps.
use Rattle.std.proofs.Common.{◌≡◌, ◌≤◌, ◌+◌, ◌-◌, ◌++◌, length}
use Rattle.std.specs.Vec.{vec_capacity}
use Rattle.std.specs.Prelude.{map}
use Rattle.amo_process.specs.Batch.{row_item}
use Rattle.amo_process.proofs.Others.{others_up}
use Rattle.amo_process.proofs.batch.add_rows.Given as goal

abbrev pub invariant-loop-other : goal.invariant-loop-other
invariant-loop-other l =
    record {
      added : l.items.items ++ map (row_item l.givens l.local.state.fronts) (others_up l.p l.other l.other-end)
          ≡ l.initial.items.items ++ map (row_item l.givens l.local.state.fronts) (others_up l.p l.initial.other l.other-end);
      few : length l.items.items + (l.other-end - l.other) ≤ length l.initial.items.items + l.givens.workers;
      room : vec_capacity l.items ≡ vec_capacity l.initial.items;
    }
