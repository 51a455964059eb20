-- The facts that each pass of a loop of `call_back` keeps.
use Rattle.std.proofs.Common.{◌≡◌, ℕ, List, All, length}
use Rattle.amo_params.specs.declared.givens.Givens.{Givens}
use Rattle.amo_mailbox.specs.declared.queue.Queue.{Queue}
use Rattle.amo_crew.specs.Hired.{AreCalledOff, AtTable}
use Rattle.amo_crew.proofs.settle.calling_off.call_back.Given as goal

abbrev pub invariant-loop-member : goal.invariant-loop-member
invariant-loop-member g l = record {
  table : l.book.table_id ≡ l.floor.table_id;
  workers : All (AtTable l.floor.table_id) l.crew.items;
  back : (queue : Queue g.row.Out.Denot) (gg : Givens) (payloads : List g.row.P.Denot) (budgets : List ℕ) → AreCalledOff queue l.floor.table_id gg payloads budgets l.fn.book l.fn.crew.items
      → AreCalledOff queue l.floor.table_id gg payloads budgets l.book l.crew.items;
}

abbrev pub decreases-loop-member : goal.decreases-loop-member
decreases-loop-member g l = length l.crew.items
