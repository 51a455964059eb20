-- `run_schedule`: what its loop keeps, by the lemmas of Explored and Rounds.
use Rattle.std.proofs.Common.{◌+◌, ◌%◌, [], ◌∷◌, ap}
use Rattle.amo_params.specs.declared.moves.Move.TheVariants.{Turn}
use Rattle.amo_params.specs.declared.givens.Givens.{Givens}
use Rattle.amo_report.proofs.Explored.{schedule_more, digits_more}
use Rattle.amo_report.proofs.Rounds.{moves_more}
use Rattle.amo_report.proofs.explorer.run_schedule.Goals as goal

pub loop-turn-preserved : goal.loop-turn-preserved
loop-turn-preserved c =
    let loop = c.loop-turn in
    let base = ap (λ (g : Givens). g.workers) c.givens-workers.ensures in
    record {
      world = moves_more _ _ _ _ (λ _. Turn (loop.digits % c.givens-workers.result.workers + 1) ∷ []) _ _ loop.invariant.world c.turn-turned.ensures.world (schedule_more _ _ c.args.number loop._turn loop.digits base loop.invariant.digits);
      digits = digits_more _ _ c.args.number loop._turn loop.digits base loop.invariant.digits;
    }
