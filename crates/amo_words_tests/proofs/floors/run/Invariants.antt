-- The facts that each pass of a loop of `run` keeps.
use Rattle.std.proofs.Common.{◌≡◌}
use Rattle.amo_words_tests.proofs.floors.run.Given as goal

abbrev pub invariant-loop : goal.invariant-loop
invariant-loop g l = l.worker.table_id ≡ l.initial.worker.table_id
