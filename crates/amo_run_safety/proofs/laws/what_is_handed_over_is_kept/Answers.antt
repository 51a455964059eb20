-- `what_is_handed_over_is_kept`: its promises, by the lemmas of Once.
use Rattle.amo_run_safety.proofs.Once.{kept_for_ever}
use Rattle.amo_run_safety.proofs.laws.what_is_handed_over_is_kept.Goals as goal

pub returns : goal.returns
returns c = kept_for_ever
