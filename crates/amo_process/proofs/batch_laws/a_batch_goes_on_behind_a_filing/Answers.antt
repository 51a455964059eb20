-- `a_batch_goes_on_behind_a_filing`: its promises, by the lemmas of Filings.
use Rattle.amo_process.proofs.Filings.{goes_on}
use Rattle.amo_process.proofs.batch_laws.a_batch_goes_on_behind_a_filing.Goals as goal

pub returns : goal.returns
returns c = λ g p s. goes_on g p s
