-- `unlawful_tells_the_reason`: its promises, by the lemmas of Told.
use Rattle.amo_judge.proofs.Told.{tells_reason}
use Rattle.amo_judge.proofs.laws.unlawful_tells_the_reason.Goals as goal

pub returns : goal.returns
returns c text number t = tells_reason text number t
