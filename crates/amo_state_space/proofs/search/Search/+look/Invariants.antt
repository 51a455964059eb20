-- The facts that each pass of a loop of `Search::look` keeps.
use Rattle.std.proofs.Common.{◌≡◌}
use Rattle.amo_state_space.proofs.Left.{left}
use Rattle.amo_state_space.proofs.search.Search.+look.Given as goal

-- what is looked at comes back
abbrev pub invariant-loop-before : goal.invariant-loop-before
invariant-loop-before l = l.self ≡ l.fn.self

abbrev pub decreases-look : goal.decreases-look
decreases-look l = left l.self.now.givens l.self.now.moves
