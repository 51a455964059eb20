-- `a_line_is_handed_over_once_more_than_opened`: its promises, by the lemmas of Exact.
use Rattle.amo_run_safety.proofs.Exact.{handed_or_opened}
use Rattle.amo_run_safety.proofs.laws.a_line_is_handed_over_once_more_than_opened.Goals as goal

pub returns : goal.returns
returns c = handed_or_opened
