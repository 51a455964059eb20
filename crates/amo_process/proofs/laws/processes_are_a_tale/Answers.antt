-- `processes_are_a_tale`: its promises, by the lemmas of Told.
use Rattle.amo_process.proofs.Told.{always_shows}
use Rattle.amo_process.proofs.laws.processes_are_a_tale.Goals as goal

pub returns : goal.returns
returns c = λ g hs o. always_shows g hs o
