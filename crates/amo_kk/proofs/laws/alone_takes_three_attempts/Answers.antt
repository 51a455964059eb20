-- `alone_takes_three_attempts`: its promises, by the lemmas of Attempts.
use Rattle.amo_kk.proofs.Attempts.{fits_three}
use Rattle.amo_kk.proofs.laws.alone_takes_three_attempts.Goals as goal

pub returns : goal.returns
returns c = λ g w p i law here first. assumption (fits_three g w p i g.limits law here first)
