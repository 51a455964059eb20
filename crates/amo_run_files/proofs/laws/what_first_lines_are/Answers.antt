-- `what_first_lines_are`: its promises, by the lemmas of Cuts.
use Rattle.amo_run_files.proofs.Cuts.{first_ended, first_whole}
use Rattle.amo_run_files.proofs.laws.what_first_lines_are.Goals as goal

pub returns-clause-ended : goal.returns-clause-ended
returns-clause-ended c count file le = first_ended count file le

pub returns-clause-whole : goal.returns-clause-whole
returns-clause-whole c count file lt = first_whole count file lt
