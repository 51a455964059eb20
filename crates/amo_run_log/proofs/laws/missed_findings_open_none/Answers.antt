-- `missed_findings_open_none`: its promises, by the lemmas of FindingLaws.
use Rattle.amo_run_log.proofs.FindingLaws.{law_findings}
use Rattle.amo_run_log.proofs.laws.missed_findings_open_none.Goals as goal

pub returns : goal.returns
returns c findings more journals line h = law_findings findings more line journals h
