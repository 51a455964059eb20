-- `a_log_is_not_damaged`: its promises, by the lemmas of Undamaged.
use Rattle.amo_journal.proofs.Undamaged.{one_list, undamaged}
use Rattle.amo_journal.proofs.laws.a_log_is_not_damaged.Goals as goal

pub returns-clause-one : goal.returns-clause-one
returns-clause-one c checksum all others file log other = one_list checksum all others file log other

pub returns-clause-whole : goal.returns-clause-whole
returns-clause-whole c checksum all records kind file log there = undamaged checksum records all kind file log there
