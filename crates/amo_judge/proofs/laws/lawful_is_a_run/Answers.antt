-- `lawful_is_a_run`: its promises, by the lemmas of Begins.
use Rattle.amo_judge.proofs.Begins.{lawful_answer, lawful_only}
use Rattle.amo_judge.proofs.laws.lawful_is_a_run.Goals as goal

pub returns : goal.returns
returns c text = (λ b. lawful_only text b, λ t. lawful_answer text t)
