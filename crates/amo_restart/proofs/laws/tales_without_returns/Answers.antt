-- `tales_without_returns`: its promises, by the lemmas of Moves.
use Rattle.std.proofs.Common.{ap}
use Rattle.amo_restart.specs.declared.model.Tale.{Tale}
use Rattle.amo_restart.proofs.Moves.{tale_of_moves}
use Rattle.amo_restart.proofs.laws.tales_without_returns.Goals as goal

pub returns-clause-workers : goal.returns-clause-workers
returns-clause-workers c = λ g ms. ap (λ (t : Tale). t.processes) (tale_of_moves g ms)

pub returns-clause-history : goal.returns-clause-history
returns-clause-history c = λ g ms. ap (λ (t : Tale). t.entries) (tale_of_moves g ms)
