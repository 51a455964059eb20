-- `Bank::try_all`: what its loop keeps and its promises, by the lemmas of Floors and Fronts.
use Rattle.std.proofs.Common.{rules}
use Rattle.amo_example_payments.proofs.Floors.{next_none, next_more, part_more}
use Rattle.amo_example_payments.proofs.Fronts.{on_err}
use Rattle.amo_example_payments.proofs.bank.Bank.try_all.Goals as goal

pub trying-init : goal.trying-init
trying-init g c = next_none _ _ _ _ _ _ (search rules)

pub trying-preserved : goal.trying-preserved
trying-preserved g c = next_more _ _ _ _ _ _ _ _ _ _ _ c.trying.invariant c.in_ok-try_next.ensures.told

pub returns-in_err-try_next-clause-part : goal.returns-in_err-try_next-clause-part
returns-in_err-try_next-clause-part g c = on_err _ (part_more _ _ _ _ _ _ _ _ _ c.trying.invariant c.in_err-try_next.ensures.part)
