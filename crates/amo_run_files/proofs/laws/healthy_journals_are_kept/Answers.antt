-- `healthy_journals_are_kept`: its promises, by the lemmas of KeptCounts.
use Rattle.amo_run_files.proofs.KeptCounts.{healthy}
use Rattle.amo_run_files.proofs.laws.healthy_journals_are_kept.Goals as goal

pub returns : goal.returns
returns c first all more = healthy first all more
