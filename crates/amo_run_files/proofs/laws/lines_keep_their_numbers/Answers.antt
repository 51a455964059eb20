-- `lines_keep_their_numbers`: its promises, by the lemmas of Cuts.
use Rattle.amo_run_files.proofs.Cuts.{keep_numbers}
use Rattle.amo_run_files.proofs.laws.lines_keep_their_numbers.Goals as goal

pub returns : goal.returns
returns c known file begins = keep_numbers known file begins
