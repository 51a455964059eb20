-- `jobs_are_read_back`: its promises, by the lemmas of Refusals.
use Rattle.amo_run_files.proofs.Refusals.{read_back}
use Rattle.amo_run_files.proofs.laws.jobs_are_read_back.Goals as goal

pub returns : goal.returns
returns c jobs cut are = read_back jobs cut are
