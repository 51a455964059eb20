-- `ClosedFloor::announcement`: its promises, by the lemmas of Told.
use Rattle.amo_kk.specs.Words.{next_word}
use Rattle.amo_words.proofs.Told.{word_at}
use Rattle.amo_words.proofs.floor.ClosedFloor.announcement.Goals as goal

pub returns : goal.returns
returns g c = word_at _ c.args.self.now c.self.view_is (λ x. next_word c.args.p) c.next_word.result c.word.result c.next_word.ensures c.word.ensures
