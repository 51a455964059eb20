-- `settle_again`: its promises, directly from definitions and clauses.
use Rattle.amo_example_payments.proofs.rounds.settle_again.Goals as goal

pub returns-in-Ok-clause-outcome : goal.returns-in-Ok-clause-outcome
returns-in-Ok-clause-outcome g c = λ gg payloads budgets is. c.settled_later.ensures gg payloads budgets c.args.rest c.in-Ok.outcome is c.in-Ok.ensures.settled
