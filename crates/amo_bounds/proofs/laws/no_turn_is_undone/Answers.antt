-- `no_turn_is_undone`: its promises, by the lemmas of Return.
use Rattle.amo_bounds.proofs.Return.{no_return}
use Rattle.amo_bounds.proofs.laws.no_turn_is_undone.Goals as goal

pub returns : goal.returns
returns c = λ g w p ms law here back. no_return g w p ms law here back
