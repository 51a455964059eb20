-- `unlawful_tells_the_first`: its promises, by the lemmas of Begins.
use Rattle.amo_judge.proofs.Begins.{unlawful_answer}
use Rattle.amo_judge.proofs.laws.unlawful_tells_the_first.Goals as goal

pub returns : goal.returns
returns c text number t = unlawful_answer text number t
