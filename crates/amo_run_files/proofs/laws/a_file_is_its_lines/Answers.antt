-- `a_file_is_its_lines`: its promises, by the lemmas of Cuts.
use Rattle.amo_run_files.proofs.Cuts.{whole, lacking, only}
use Rattle.amo_run_files.proofs.laws.a_file_is_its_lines.Goals as goal

pub returns-clause-whole : goal.returns-clause-whole
returns-clause-whole c file = whole file

pub returns-clause-lines : goal.returns-clause-lines
returns-clause-lines c file = (lacking file).0

pub returns-clause-rest : goal.returns-clause-rest
returns-clause-rest c file = (lacking file).1

pub returns-clause-only : goal.returns-clause-only
returns-clause-only c lines rest all lacks = only lines rest all lacks
