-- `note_outputs`: what its loop keeps, by the lemmas of Noting.
use Rattle.std.proofs.Common.{◌∙◌, arith}
use Rattle.amo_run_plan.specs.Noted.{is_in}
use Rattle.amo_run_plan.proofs.Noting.{noted_next}
use Rattle.amo_run_plan.proofs.block_done.note_outputs.Goals as goal

pub loop-place-preserved : goal.loop-place-preserved
loop-place-preserved c =
    let same = c.loop-place.invariant.count in
    record {
      count = c.note_output.ensures.len ∙ same;
      noted = λ b low high. noted_next (is_in c.args.sets.now) c.args.outputs.now c.loop-place.place b c.index-outputs-place.result _ _ c.loop-place-test.true c.index-outputs-place.is
          (c.loop-place.invariant.noted b low high) (c.note_output.ensures.noted b low (omega (arith, high, same)));
    }
