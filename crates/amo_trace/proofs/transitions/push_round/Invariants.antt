-- The facts that each pass of a loop of `push_round` keeps.
use Rattle.std.proofs.Common.{◌≡◌, ◌++◌}
use Rattle.amo_sets.specs.Lists.{table}
use Rattle.amo_params.specs.declared.moves.Move.TheVariants.{Turn}
use Rattle.amo_trace.proofs.transitions.push_round.Given as goal

-- the turns of the workers so far
abbrev pub invariant-loop-before : goal.invariant-loop-before
invariant-loop-before l = l.moves.items ≡ l.fn.moves.items ++ table l.before (λ p. Turn p)
