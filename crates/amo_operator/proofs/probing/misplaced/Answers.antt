-- `misplaced`: its promises, by the lemmas of Placing.
use Rattle.std.proofs.Common.{map}
use Rattle.amo_operator.proofs.Placing.{misplaced_if}
use Rattle.amo_operator.proofs.probing.misplaced.Goals as goal

pub returns-clause-found : goal.returns-clause-found
returns-clause-found c = misplaced_if (map (λ journal. journal.items) c.args.journals.now) c.args.findings.now c.first_misplaced.result c.first_misplaced.ensures.found
