-- `effectiveness_is_fewest`: its promises, by the lemmas of Worst.
use Rattle.amo_bounds.proofs.Worst.{effectiveness}
use Rattle.amo_bounds.proofs.laws.effectiveness_is_fewest.Goals as goal

pub returns : goal.returns
returns c = λ g. effectiveness g
