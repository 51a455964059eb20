-- `batches_are_short`: its promises, by the lemmas of Short.
use Rattle.amo_process.proofs.Short.{batch_short}
use Rattle.amo_process.proofs.batch_laws.batches_are_short.Goals as goal

pub returns : goal.returns
returns c = λ g p s o. batch_short g p s o
