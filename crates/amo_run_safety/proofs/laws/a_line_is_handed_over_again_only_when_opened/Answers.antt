-- `a_line_is_handed_over_again_only_when_opened`: its promises, by the lemmas of Once.
use Rattle.amo_run_safety.proofs.Once.{again_only_opened}
use Rattle.amo_run_safety.proofs.laws.a_line_is_handed_over_again_only_when_opened.Goals as goal

pub returns : goal.returns
returns c = again_only_opened
