-- `worst_moves_are_worst`: its promises, by the lemmas of Worst.
use Rattle.amo_bounds.proofs.Worst.{worst_are}
use Rattle.amo_bounds.proofs.laws.worst_moves_are_worst.Goals as goal

pub returns : goal.returns
returns c = λ g. worst_are g
