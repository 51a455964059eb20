-- The facts that each pass of a loop of `longest_turns` keeps.
use Rattle.std.proofs.Common.{◌-◌, length}
use Rattle.amo_state_space.proofs.Left.{most_taken}
use Rattle.amo_state_space.proofs.Way.{IsOnTheWay}
use Rattle.amo_state_space.proofs.longest.longest_turns.Given as goal

-- the turns so far were all taken, and led to the world
abbrev pub invariant-loop-turns : goal.invariant-loop-turns
invariant-loop-turns l = IsOnTheWay l.fn.givens l.world l.turns.items

abbrev pub decreases-loop-turns : goal.decreases-loop-turns
decreases-loop-turns l = most_taken l.fn.givens - length l.turns.items
