-- `batches_are_accesses`: its promises, by the lemmas of Batches.
use Rattle.amo_process.proofs.Batches.{rest_wanted}
use Rattle.amo_process.proofs.batch_laws.batches_are_accesses.Goals as goal

pub returns : goal.returns
returns c = λ g p heard more s t rest o stands left after. rest_wanted g p heard more s t rest o stands left after
