-- `Bank::pay_next`: its promises, by the lemmas of Floors and Fronts.
use Rattle.amo_example_payments.proofs.Floors.{part_none, part_one, next_one}
use Rattle.amo_example_payments.proofs.Fronts.{on_err, whole}
use Rattle.amo_example_payments.proofs.bank.Bank.pay_next.Goals as goal

pub returns-in_err-round-clause-part : goal.returns-in_err-round-clause-part
returns-in_err-round-clause-part g c = on_err _ (part_none _ _ _ _ _)

pub returns-in_err-sorted-clause-part : goal.returns-in_err-sorted-clause-part
returns-in_err-sorted-clause-part g c = on_err _ (part_none _ _ _ _ _)

pub returns-in_err-tell_round-clause-part : goal.returns-in_err-tell_round-clause-part
returns-in_err-tell_round-clause-part g c = on_err _ (part_one _ _ _ _ c.in_ok-round.round.items _ c.in_ok-sorted.sorted _ _ c.in_ok-round.ensures.round c.in_ok-sorted.ensures.sorted c.in_err-tell_round.ensures.front)

pub returns-in_err-add_free-clause-part : goal.returns-in_err-add_free-clause-part
returns-in_err-add_free-clause-part g c =
    on_err _ (part_one _ _ _ _ c.in_ok-round.round.items _ c.in_ok-sorted.sorted _ _ c.in_ok-round.ensures.round c.in_ok-sorted.ensures.sorted (whole _ _ _ c.in_ok-tell_round.ensures.whole))

pub returns-clause-told : goal.returns-clause-told
returns-clause-told g c = next_one _ _ _ _ c.in_ok-round.round.items _ _ _ c.in_ok-sorted.sorted _ _ c.in_ok-round.ensures.round c.in_ok-sorted.ensures.sorted c.in_ok-add_free.ensures c.in_ok-tell_round.ensures.whole
