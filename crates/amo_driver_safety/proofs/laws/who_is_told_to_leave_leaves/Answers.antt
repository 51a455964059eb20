-- `who_is_told_to_leave_leaves`: its promises, by the lemmas of Farewell.
use Rattle.amo_driver_safety.proofs.Farewell.{takes_leave}
use Rattle.amo_driver_safety.proofs.laws.who_is_told_to_leave_leaves.Goals as goal

pub returns : goal.returns
returns c = takes_leave
