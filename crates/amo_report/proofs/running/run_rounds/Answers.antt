-- `run_rounds`: what its loop keeps, by the lemmas of Rounds.
use Rattle.std.proofs.Common.{◌+◌}
use Rattle.amo_kk.specs.World.{round, rounds}
use Rattle.amo_report.proofs.Rounds.{moves_more, rounds_more}
use Rattle.amo_report.proofs.running.run_rounds.Goals as goal

pub loop-done-preserved : goal.loop-done-preserved
loop-done-preserved c =
    let world = c.args.world.now in
    let workers = world.givens.workers in
    let n = c.loop-done._done in
    moves_more world.givens world.world (rounds workers n) (rounds workers (n + 1)) (λ g. round g.workers) _ _ c.loop-done.invariant c.run_round.ensures (rounds_more workers n)
