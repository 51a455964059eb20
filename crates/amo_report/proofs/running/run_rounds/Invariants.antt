-- The facts that each pass of a loop of `run_rounds` keeps.
use Rattle.std.proofs.Common.{◌≡◌}
use Rattle.amo_kk.specs.World.{world_after_moves, rounds}
use Rattle.amo_report.proofs.running.run_rounds.Given as goal

-- the rounds so far are run
abbrev pub invariant-loop-done : goal.invariant-loop-done
invariant-loop-done l = l.world ≡ record { givens = l.fn.world.givens; world = world_after_moves l.fn.world.givens l.fn.world.world (rounds l.fn.world.givens.workers l._done) }
