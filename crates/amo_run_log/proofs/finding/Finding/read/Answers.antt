-- `Finding::read`: its promises, by the lemmas of FindingTexts and Readings.
use Rattle.amo_run_log.specs.Findings.{text_of_finding, FitsFinding, finding_in}
use Rattle.amo_run_log.proofs.FindingTexts.{finding_reads, finding_printed}
use Rattle.amo_run_log.proofs.Readings.{found_by, none_by}
use Rattle.amo_run_log.proofs.finding.Finding.read.Goals as goal

pub returns-clause-found : goal.returns-clause-found
returns-clause-found c = found_by text_of_finding FitsFinding finding_in finding_printed c.args.bytes.now c.finding_of_bytes.result c.finding_of_bytes.ensures

pub returns-clause-none : goal.returns-clause-none
returns-clause-none c = none_by text_of_finding FitsFinding finding_in finding_reads c.args.bytes.now c.finding_of_bytes.result c.finding_of_bytes.ensures
