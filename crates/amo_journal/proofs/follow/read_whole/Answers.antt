-- `read_whole`: its promises, directly from definitions and clauses.
use Rattle.std.proofs.Common.{[]}
use Rattle.amo_journal.proofs.follow.read_whole.Goals as goal

pub returns-clause-place : goal.returns-clause-place
returns-clause-place c = c.in_ok-place.ensures c.args.first.now.digits [] c.new.ensures
