-- `records_tell_where_it_stands`: its promises, by the lemmas of Steps.
use Rattle.amo_dir_admission.proofs.Steps.{stands_more}
use Rattle.amo_dir_admission.proofs.laws.records_tell_where_it_stands.Goals as goal

pub returns : goal.returns
returns c = stands_more
