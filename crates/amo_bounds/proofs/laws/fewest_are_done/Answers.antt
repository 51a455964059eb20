-- `fewest_are_done`: its promises, by the lemmas of Fewest.
use Rattle.amo_bounds.proofs.Fewest.{fewest_done}
use Rattle.amo_bounds.proofs.laws.fewest_are_done.Goals as goal

pub returns : goal.returns
returns c = λ g ms p o over. fewest_done g ms p o over
