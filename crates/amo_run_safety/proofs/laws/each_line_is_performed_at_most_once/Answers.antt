-- `each_line_is_performed_at_most_once`: its promises, by the lemmas of Once.
use Rattle.amo_run_safety.proofs.Once.{performed_once}
use Rattle.amo_run_safety.proofs.laws.each_line_is_performed_at_most_once.Goals as goal

pub returns : goal.returns
returns c = performed_once
