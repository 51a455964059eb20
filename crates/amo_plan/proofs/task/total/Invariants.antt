-- The facts that each pass of a loop of `total` keeps.
use Rattle.std.proofs.Common.{◌≡◌, ◌≤◌, take, sum}
use Rattle.amo_plan.proofs.task.total.Given as goal

abbrev pub invariant-loop-number : goal.invariant-loop-number
invariant-loop-number l = record {
  so_far : l.total ≡ sum (take l.number-index l.numbers);
  small : l.total ≤ 18446744073709551615;
}
