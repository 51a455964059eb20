-- `RoundFile::read`: its promises, by the lemmas of OpenLines (amo_run_log) and RoundFileTexts.
use Rattle.amo_run_log.proofs.OpenLines.{in_ok}
use Rattle.amo_run_files.proofs.RoundFileTexts.{read_found, read_none}
use Rattle.amo_run_files.proofs.round_file.RoundFile.read.Goals as goal

pub returns-clause-found : goal.returns-clause-found
returns-clause-found c = in_ok c.read_file.result c.read_file.ensures (λ found is. read_found c.args.first.now.digits c.args.bytes.now found is)

pub returns-clause-none : goal.returns-clause-none
returns-clause-none c = in_ok c.read_file.result c.read_file.ensures (λ found is. read_none c.args.first.now.digits c.args.bytes.now found is)
