-- `stories_end_late`: its promises, by the lemmas of Counts.
use Rattle.amo_restart.proofs.Counts.{end_is_late, sure_end, few_doubts}
use Rattle.amo_restart.proofs.laws.stories_end_late.Goals as goal

pub returns-clause-filed : goal.returns-clause-filed
returns-clause-filed c = λ g xs ys p h. end_is_late g xs ys p g.limits h

pub returns-clause-sure : goal.returns-clause-sure
returns-clause-sure c = λ g xs ys p h. sure_end g xs ys p g.limits h

pub returns-clause-doubts : goal.returns-clause-doubts
returns-clause-doubts c = λ xs. few_doubts xs
