-- `met_ends_come_late`: its promises, by the lemmas of Meetings.
use Rattle.amo_words.proofs.Meetings.{late_back}
use Rattle.amo_words.proofs.laws.met_ends_come_late.Goals as goal

pub returns : goal.returns
returns c = λ g log spots p l stand back ended. late_back g log spots stand p l back ended
