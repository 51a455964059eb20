-- `a_batch_ends_late`: its promises, by the lemmas of Ends.
use Rattle.amo_process.proofs.Ends.{ends_late}
use Rattle.amo_process.proofs.batch_laws.a_batch_ends_late.Goals as goal

pub returns : goal.returns
returns c = λ g p heard more s t o stands left after. ends_late g p heard more s t o stands left after
