-- `Append::read`: its promises, by the lemmas of AppendTexts and Readings.
use Rattle.amo_run_log.specs.Entries.{text_of_append, FitsAppend, append_in}
use Rattle.amo_run_log.proofs.AppendTexts.{append_reads, append_printed}
use Rattle.amo_run_log.proofs.Readings.{found_by, none_by}
use Rattle.amo_run_log.proofs.append.Append.read.Goals as goal

pub returns-clause-found : goal.returns-clause-found
returns-clause-found c = found_by text_of_append FitsAppend append_in append_printed c.args.bytes.now c.append_of_bytes.result c.append_of_bytes.ensures

pub returns-clause-none : goal.returns-clause-none
returns-clause-none c = none_by text_of_append FitsAppend append_in append_reads c.args.bytes.now c.append_of_bytes.result c.append_of_bytes.ensures
