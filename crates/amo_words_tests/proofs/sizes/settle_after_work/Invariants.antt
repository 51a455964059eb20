-- The facts that each pass of a loop of `settle_after_work` keeps.
use Rattle.std.proofs.Common.{◌≡◌}
use Rattle.amo_words_tests.proofs.sizes.settle_after_work.Given as goal

abbrev pub invariant-loop-before : goal.invariant-loop-before
invariant-loop-before g l = l.book.table_id ≡ l.floor.table_id
