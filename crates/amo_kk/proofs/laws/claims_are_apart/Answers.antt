-- `claims_are_apart`: its promises, directly from definitions and clauses.
use Rattle.amo_kk.proofs.laws.claims_are_apart.Goals as goal

pub returns : goal.returns
returns c = λ g w p q j law o other claimed. (law.lawful.apart p q o other).claims j claimed
