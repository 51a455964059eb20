-- `schedule_numbers_are_decimal`: its promises, by the lemmas of DigitsLemmas.
use Rattle.std.proofs.Common.{arith}
use Rattle.amo_plan.specs.declared.limits.TheConstants.{HIGHEST_IN_WORD}
use Rattle.amo_plan.proofs.DigitsLemmas.{within_is_decimal}
use Rattle.amo_plan.proofs.laws.schedule_numbers_are_decimal.Goals as goal

pub returns : goal.returns
unfolding Rattle.amo_plan.specs.Schedule.number_of
returns c = λ text k. within_is_decimal 1 HIGHEST_IN_WORD text k (omega arith)
