-- `batches_are_within`: its promises, by the lemmas of Within.
use Rattle.amo_process.proofs.Within.{batch_within}
use Rattle.amo_process.proofs.batch_laws.batches_are_within.Goals as goal

pub returns : goal.returns
returns c = λ g p heard s o stands. batch_within g p heard s o stands
