-- `ClosedFloor::settle`: its promises, by the lemmas of Told.
use Rattle.amo_words.proofs.Told.{whole_of}
use Rattle.amo_words.proofs.floor.ClosedFloor.settle.Goals as goal

pub returns-clause-whole : goal.returns-clause-whole
returns-clause-whole g c = λ gg payloads seen spots h. whole_of gg payloads seen spots c.args.self c.fill.result h c.fill.ensures
