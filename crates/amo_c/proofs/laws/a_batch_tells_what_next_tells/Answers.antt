-- `a_batch_tells_what_next_tells`: its promises, by the lemmas of Batches.
use Rattle.amo_c.proofs.Batches.{rest_told, end_told}
use Rattle.amo_c.proofs.laws.a_batch_tells_what_next_tells.Goals as goal

pub returns-clause-rest : goal.returns-clause-rest
returns-clause-rest c = λ w heard more s t item rest o stands left after. rest_told w heard more s t item rest o stands left after

pub returns-clause-end : goal.returns-clause-end
returns-clause-end c = λ w heard more s t o stands left after. end_told w heard more s t o stands left after
