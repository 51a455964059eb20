-- `sort_out`: its promises, by the lemmas of Sorts.
use Rattle.std.proofs.Common.{rules}
use Rattle.amo_example_payments.proofs.Sorts.{sorted}
use Rattle.amo_example_payments.proofs.sorting.sort_out.Goals as goal

pub returns-clause-sorted : goal.returns-clause-sorted
returns-clause-sorted c givens payloads budgets is named = sorted givens payloads _ budgets _ _ is named (search rules) (search rules) (search rules)
