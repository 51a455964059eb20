-- `moves_keep_worlds_lawful`: its promises, by the lemmas of Worlds and Runs.
use Rattle.amo_kk.proofs.Worlds.{move_lawful}
use Rattle.amo_kk.proofs.Runs.{move_goes}
use Rattle.amo_kk.proofs.laws.moves_keep_worlds_lawful.Goals as goal

pub returns-clause-lawful : goal.returns-clause-lawful
returns-clause-lawful c = λ g w m law. move_lawful g w m g.limits law

pub returns-clause-run : goal.returns-clause-run
returns-clause-run c = λ g s w m law agrees. move_goes g s w m g.limits law agrees
