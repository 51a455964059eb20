-- The facts that each pass of a loop of `hire_all` keeps.
use Rattle.std.proofs.Common.{◌≡◌, vec_len}
use Rattle.amo_crew.specs.Hired.{AreHired}
use Rattle.amo_crew.proofs.run.hiring.hire_all.Given as goal

abbrev pub invariant-loop-alloc : goal.invariant-loop-alloc
invariant-loop-alloc g l = record {
  hired : AreHired l.floor.table_id l.plan.givens l.book.view.payloads l.plan.budgets l.book l.kit;
  payloads : l.book.view.payloads ≡ l.initial.book.view.payloads;
}

abbrev pub decreases-loop-alloc : goal.decreases-loop-alloc
decreases-loop-alloc g l = vec_len l.kit.outlets
