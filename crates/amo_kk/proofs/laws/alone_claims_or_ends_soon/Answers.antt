-- `alone_claims_or_ends_soon`: its promises, by the lemmas of Alone.
use Rattle.amo_kk.proofs.Alone.{claims_or_ends_soon}
use Rattle.amo_kk.proofs.laws.alone_claims_or_ends_soon.Goals as goal

pub returns : goal.returns
returns c = λ g w p law here. claims_or_ends_soon g w p g.limits law here
