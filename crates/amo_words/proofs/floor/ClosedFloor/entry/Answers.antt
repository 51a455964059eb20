-- `ClosedFloor::entry`: its promises, by the lemmas of Told.
use Rattle.amo_kk.specs.Words.{done_word}
use Rattle.amo_words.proofs.Told.{word_at}
use Rattle.amo_words.proofs.floor.ClosedFloor.entry.Goals as goal

pub returns : goal.returns
returns g c = word_at _ c.args.self.now c.self.view_is (λ x. done_word x c.args.p c.args.k) c.done_word.result c.word.result c.done_word.ensures c.word.ensures
