-- `a_request_on_its_way_performs_a_line_twice`: its promises, by the lemmas of Needed.
use Rattle.amo_run_safety.proofs.Needed.{until_listed, from_listed, are_early_actions, early_truth, early_lines}
use Rattle.amo_run_safety.proofs.laws.a_request_on_its_way_performs_a_line_twice.Goals as goal

pub returns : goal.returns
returns c = (until_listed, from_listed, are_early_actions, early_truth, early_lines)
