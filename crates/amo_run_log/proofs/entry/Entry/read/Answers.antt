-- `Entry::read`: its promises, by the lemmas of EntryTexts and Readings.
use Rattle.amo_run_log.specs.Entries.{text_of, Fits, entry_in}
use Rattle.amo_run_log.proofs.EntryTexts.{entry_reads, entry_printed}
use Rattle.amo_run_log.proofs.Readings.{found_by, none_by}
use Rattle.amo_run_log.proofs.entry.Entry.read.Goals as goal

pub returns-clause-found : goal.returns-clause-found
returns-clause-found c = found_by text_of Fits entry_in entry_printed c.args.bytes.now c.entry_of_bytes.result c.entry_of_bytes.ensures

pub returns-clause-none : goal.returns-clause-none
returns-clause-none c = none_by text_of Fits entry_in entry_reads c.args.bytes.now c.entry_of_bytes.result c.entry_of_bytes.ensures
