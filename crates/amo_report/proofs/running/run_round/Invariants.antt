-- The facts that each pass of a loop of `run_round` keeps.
use Rattle.std.proofs.Common.{◌≡◌}
use Rattle.amo_sets.specs.Lists.{table}
use Rattle.amo_kk.specs.World.{world_after_moves}
use Rattle.amo_params.specs.declared.moves.Move.TheVariants.{Turn}
use Rattle.amo_report.proofs.running.run_round.Given as goal

-- the workers so far have had their turn
abbrev pub invariant-loop-before : goal.invariant-loop-before
invariant-loop-before l = l.world ≡ record { givens = l.fn.world.givens; world = world_after_moves l.fn.world.givens l.fn.world.world (table l.before (λ p. Turn p)) }
