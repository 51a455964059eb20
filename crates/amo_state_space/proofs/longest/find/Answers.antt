-- `find`: its promises, by the lemmas of Way.
use Rattle.amo_state_space.proofs.Way.{whole_from_birth}
use Rattle.amo_state_space.proofs.longest.find.Goals as goal

pub returns-then-givens-clause-whole : goal.returns-then-givens-clause-whole
returns-then-givens-clause-whole c = rw c.new.ensures.items (whole_from_birth c.args.givens c.if-givens.true)
