-- The facts that each pass of a loop of `all_gone` keeps.
use Rattle.std.proofs.Common.{◌≡◌, true}
use Rattle.amo_trace.specs.Transitions.{are_gone}
use Rattle.amo_trace.proofs.transitions.all_gone.Given as goal

-- the workers so far are gone
abbrev pub invariant-loop-before : goal.invariant-loop-before
invariant-loop-before l = are_gone l.world.world l.before ≡ true
