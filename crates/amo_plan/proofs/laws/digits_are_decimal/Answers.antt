-- `digits_are_decimal`: its promises, by the lemmas of DigitsLemmas.
use Rattle.amo_plan.proofs.DigitsLemmas.{number_is_decimal, within_is_decimal}
use Rattle.amo_plan.proofs.laws.digits_are_decimal.Goals as goal

pub returns-clause-number : goal.returns-clause-number
returns-clause-number c = number_is_decimal

pub returns-clause-range : goal.returns-clause-range
returns-clause-range c = within_is_decimal
