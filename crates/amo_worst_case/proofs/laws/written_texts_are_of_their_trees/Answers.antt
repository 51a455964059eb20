-- `written_texts_are_of_their_trees`: its promises, by the lemmas of TreeTexts.
use Rattle.amo_worst_case.proofs.TreeTexts.{tree_read}
use Rattle.amo_worst_case.proofs.laws.written_texts_are_of_their_trees.Goals as goal

pub returns : goal.returns
returns c = λ p small short integers. tree_read p small short integers
