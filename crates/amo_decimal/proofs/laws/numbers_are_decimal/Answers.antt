-- `numbers_are_decimal`: its promises, by the lemmas of NumberTexts.
use Rattle.amo_decimal.proofs.NumberTexts.{number_is_decimal}
use Rattle.amo_decimal.proofs.laws.numbers_are_decimal.Goals as goal

pub returns : goal.returns
returns c = number_is_decimal
