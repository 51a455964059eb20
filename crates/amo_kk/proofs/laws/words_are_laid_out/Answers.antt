-- `words_are_laid_out`: its promises, by the lemmas of Words.
use Rattle.amo_kk.proofs.Words.{turn_loads, turn_writes, leave_writes}
use Rattle.amo_kk.proofs.laws.words_are_laid_out.Goals as goal

pub returns-clause-loads : goal.returns-clause-loads
returns-clause-loads c = λ g w p law o. turn_loads g w law p o

pub returns-clause-stores : goal.returns-clause-stores
returns-clause-stores c = λ g w p law here. turn_writes g w law p here

pub returns-clause-leaves : goal.returns-clause-leaves
returns-clause-leaves c = λ g w p law here may. leave_writes g w law p here may
