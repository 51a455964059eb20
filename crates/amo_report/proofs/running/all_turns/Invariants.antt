-- The facts that each pass of a loop of `all_turns` keeps.
use Rattle.std.proofs.Common.{◌≡◌}
use Rattle.amo_sets.specs.Lists.{table}
use Rattle.amo_kk.specs.World.{process}
use Rattle.amo_report.proofs.running.all_turns.Given as goal

-- the turns of the workers so far
abbrev pub invariant-loop-before : goal.invariant-loop-before
invariant-loop-before l = l.turns.items ≡ table l.before (λ p. (process l.world.world p).local.steps)
