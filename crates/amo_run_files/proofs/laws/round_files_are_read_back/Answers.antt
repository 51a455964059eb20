-- `round_files_are_read_back`: its promises, by the lemmas of RoundFileTexts.
use Rattle.amo_run_files.proofs.RoundFileTexts.{file_reads, file_printed}
use Rattle.amo_run_files.proofs.laws.round_files_are_read_back.Goals as goal

pub returns-clause-back : goal.returns-clause-back
returns-clause-back c first f is = file_reads first f is

pub returns-clause-printed : goal.returns-clause-printed
returns-clause-printed c first file f h = file_printed first file f h
