-- `run_round`: what its loop keeps, by the lemmas of Rounds.
use Rattle.std.proofs.Common.{◌+◌, [], ◌∷◌}
use Rattle.amo_params.specs.declared.moves.Move.TheVariants.{Turn}
use Rattle.amo_report.proofs.Rounds.{moves_more, table_more}
use Rattle.amo_report.proofs.running.run_round.Goals as goal

pub loop-before-preserved : goal.loop-before-preserved
loop-before-preserved c =
    moves_more _ _ _ _ (λ _. Turn (c.loop-before.before + 1) ∷ []) _ _ c.loop-before.invariant c.turn-turned.ensures.world (table_more _ c.loop-before.before)
