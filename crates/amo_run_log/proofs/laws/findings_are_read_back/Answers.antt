-- `findings_are_read_back`: its promises, by the lemmas of FindingTexts and TextLists.
use Rattle.amo_run_log.specs.Findings.{text_of_finding, FitsFinding, finding_in}
use Rattle.amo_run_log.proofs.FindingTexts.{finding_reads, finding_printed}
use Rattle.amo_run_log.proofs.TextLists.{reads_back, was_printed}
use Rattle.amo_run_log.proofs.laws.findings_are_read_back.Goals as goal

pub returns-clause-back : goal.returns-clause-back
returns-clause-back c findings fit = reads_back finding_in text_of_finding FitsFinding finding_reads findings fit

pub returns-clause-printed : goal.returns-clause-printed
returns-clause-printed c texts findings h = (was_printed finding_in text_of_finding FitsFinding finding_printed texts findings h).0
