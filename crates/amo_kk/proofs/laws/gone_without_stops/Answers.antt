-- `gone_without_stops`: its promises, by the lemmas of Moves.
use Rattle.amo_kk.proofs.Moves.{gone_is}
use Rattle.amo_kk.proofs.laws.gone_without_stops.Goals as goal

pub returns : goal.returns
returns c = λ g moves p none. gone_is g moves none p
