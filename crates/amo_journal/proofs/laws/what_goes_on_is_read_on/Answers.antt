-- `what_goes_on_is_read_on`: its promises, by the lemmas of Undamaged.
use Rattle.amo_journal.proofs.Undamaged.{no_reason}
use Rattle.amo_journal.proofs.laws.what_goes_on_is_read_on.Goals as goal

pub returns : goal.returns
returns c first all more place bytes error at log reason = no_reason first all more place bytes error at log reason
