-- The facts that each pass of a loop of `collect_all` keeps.
use Rattle.std.proofs.Common.{◌≡◌, ◌+◌, ◌-◌, ◌≤◌, ◌++◌, ℕ, List, length, All}
use mathlib.Core.Option.{some}
use lib.ListN.{get_elem?}
use Rattle.amo_params.specs.declared.givens.Givens.{Givens}
use Rattle.amo_words.specs.Faces.{spots}
use Rattle.amo_mailbox.specs.declared.queue.Queue.{Queue}
use Rattle.amo_crew.specs.declared.run.member.Finish.{Finish}
use Rattle.amo_crew.specs.Crew.{AreFinished}
use Rattle.amo_crew.specs.Collecting.{AreCollected, RanAt, HasRoomFor, IsBackAs, ends_in}
use Rattle.amo_crew.proofs.settle.collecting.collect_all.Given as goal

abbrev pub invariant-loop-before : goal.invariant-loop-before
invariant-loop-before g l = record {
  table : l.book.table_id ≡ l.floor.table_id;
  left : length l.finishes.items + l.before ≡ l.count;
  workers : All (RanAt l.floor.table_id) l.finishes.items;
  room : HasRoomFor (length l.finishes.items) l.into;
  told : l.into.ends.items ++ ends_in l.finishes.items ≡ l.initial.into.ends.items ++ ends_in l.initial.finishes.items;
  front : (k : ℕ) (f : Finish g.row.P.Denot g.row.W-Out.Denot) → get_elem? l.finishes.items k ≡ some f → get_elem? l.initial.finishes.items k ≡ some f;
  collected : (queue : Queue g.row.W-Out.Denot) (gg : Givens) (payloads : List g.row.P.Denot) (budgets : List ℕ) → AreFinished (g.W.Work.related l._work) queue l.floor.table_id gg payloads budgets l.initial.finishes.items → l.count ≡ gg.workers
      → AreCollected (g.W.Work.related l._work) queue l.floor.table_id gg payloads budgets 0 l.initial.book l.initial.into
      → AreFinished (g.W.Work.related l._work) queue l.floor.table_id gg payloads budgets l.finishes.items
      × AreCollected (g.W.Work.related l._work) queue l.floor.table_id gg payloads budgets l.before l.book l.into
      × ((k : ℕ) (f : Finish g.row.P.Denot g.row.W-Out.Denot) → length l.finishes.items ≤ k → get_elem? l.initial.finishes.items k ≡ some f → IsBackAs (spots l.book) (gg.workers - k) f);
}
