-- `ends_come_late`: its promises, by the lemmas of Ends.
use Rattle.amo_kk.proofs.Ends.{enough_done}
use Rattle.amo_kk.proofs.laws.ends_come_late.Goals as goal

pub returns : goal.returns
returns c = λ g w p law o ended. enough_done g w p law o ended
