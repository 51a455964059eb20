-- `total`: its promises, directly from definitions and clauses.
use Rattle.std.proofs.Common.{◌≡◌, sum}
use Rattle.std.proofs.lemmas.List.{take_all}
use Rattle.amo_plan.proofs.task.total.Goals as goal

pub returns : goal.returns
returns c =
    let whole : c.loop-number.total ≡ sum c.args.numbers.now = rw (take_all c.loop-number.number-index c.args.numbers.now c.loop-number-test.false) at c.loop-number.invariant.so_far in
    (rw (← whole) c.loop-number.invariant.small, whole)
