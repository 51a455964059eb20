-- `fewest_are_met`: its promises, by the lemmas of Worst.
use Rattle.amo_bounds.specs.Worst.{worst_moves}
use Rattle.amo_bounds.proofs.Worst.{worst_are}
use Rattle.amo_bounds.proofs.laws.fewest_are_met.Goals as goal

pub returns : goal.returns
returns c = λ g. (worst_moves g, worst_are g)
