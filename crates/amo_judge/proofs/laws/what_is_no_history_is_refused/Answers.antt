-- `what_is_no_history_is_refused`: its promises, by the lemmas of Begins.
use Rattle.amo_judge.proofs.Begins.{refused_answer}
use Rattle.amo_judge.proofs.laws.what_is_no_history_is_refused.Goals as goal

pub returns : goal.returns
returns c text = refused_answer text
