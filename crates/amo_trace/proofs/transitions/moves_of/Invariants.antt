-- The facts that each pass of a loop of `moves_of` keeps.
use Rattle.std.proofs.Common.{◌≡◌, ◌++◌}
use Rattle.amo_kk.specs.World.{rounds}
use Rattle.amo_trace.proofs.transitions.moves_of.Given as goal

-- the schedule and the rounds so far
abbrev pub invariant-loop-done : goal.invariant-loop-done
invariant-loop-done l = l.moves.items ≡ l.plan.heads.moves ++ rounds l.plan.heads.givens.workers l._done
