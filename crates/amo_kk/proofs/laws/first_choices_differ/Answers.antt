-- `first_choices_differ`: its promises, by the lemmas of FirstChoice.
use Rattle.amo_kk.proofs.FirstChoice.{first_choice, first_over, ranks_rise}
use Rattle.amo_kk.proofs.laws.first_choices_differ.Goals as goal

pub returns-clause-first : goal.returns-clause-first
returns-clause-first c = λ g p worker enough. first_choice g p worker enough

pub returns-clause-rise : goal.returns-clause-rise
returns-clause-rise c = λ g p q low high less. ranks_rise g p q g.jobs low high less

pub returns-clause-none : goal.returns-clause-none
returns-clause-none c = λ g p few. first_over g p few
