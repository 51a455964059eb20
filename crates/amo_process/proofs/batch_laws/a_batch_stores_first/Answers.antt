-- `a_batch_stores_first`: its promises, by the lemmas of Stores.
use Rattle.amo_process.proofs.Stores.{stores_first}
use Rattle.amo_process.proofs.batch_laws.a_batch_stores_first.Goals as goal

pub returns : goal.returns
returns c = λ g p s. stores_first g p s
