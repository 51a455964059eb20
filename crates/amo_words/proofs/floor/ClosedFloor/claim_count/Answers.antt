-- `ClosedFloor::claim_count`: its promises, by the lemmas of Told.
use Rattle.amo_kk.specs.Words.{claim_word}
use Rattle.amo_words.proofs.Told.{word_at}
use Rattle.amo_words.proofs.floor.ClosedFloor.claim_count.Goals as goal

pub returns : goal.returns
returns g c = word_at _ c.args.self.now c.self.view_is (λ x. claim_word x c.args.p) c.claim_word.result c.word.result c.claim_word.ensures c.word.ensures
