-- `words_tell_claims`: its promises, by the lemmas of Kept, Tales and Filed.
use Rattle.amo_kk.specs.World.{process}
use Rattle.amo_restart.proofs.Kept.{entries}
use Rattle.amo_restart.proofs.Tales.{same}
use Rattle.amo_restart.proofs.Filed.{filed_is}
use Rattle.amo_restart.proofs.laws.words_tell_claims.Goals as goal

pub returns-clause-dones : goal.returns-clause-dones
returns-clause-dones c = λ g w p law o. entries g g.limits (process w) law.lawful p o

pub returns-clause-in_hand : goal.returns-clause-in_hand
returns-clause-in_hand c = λ g w p law o. (same g g.limits (process w) law.lawful p o).in_doubt

pub returns-clause-claims : goal.returns-clause-claims
returns-clause-claims c = λ g w p law o. (same g g.limits (process w) law.lawful p o).claimed

pub returns-clause-filed : goal.returns-clause-filed
returns-clause-filed c = λ g w law. filed_is g w law
