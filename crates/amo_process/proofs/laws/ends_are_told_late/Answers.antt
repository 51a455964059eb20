-- `ends_are_told_late`: its promises, by the lemmas of Told.
use Rattle.amo_process.proofs.Told.{words_are_late}
use Rattle.amo_process.proofs.laws.ends_are_told_late.Goals as goal

pub returns : goal.returns
returns c = λ g hs p l fresh o w is over. words_are_late g hs p l fresh o w is over
