-- `batched_processes_are_processes`: its promises, by the lemmas of Batched.
use Rattle.amo_process.proofs.Batched.{always_same}
use Rattle.amo_process.proofs.batch_laws.batched_processes_are_processes.Goals as goal

pub returns : goal.returns
returns c = λ g hs o. always_same g hs o
