-- `records_tell_where_it_stands`: its promises, by the lemmas of Logs.
use Rattle.amo_driver_safety.proofs.Logs.{stands_more}
use Rattle.amo_driver_safety.proofs.laws.records_tell_where_it_stands.Goals as goal

pub returns : goal.returns
returns c = stands_more
