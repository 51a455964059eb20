-- `push_spaced`: what its loop keeps, by the lemmas of RowSteps.
use Rattle.std.proofs.Common.{◌++◌, ap, ◌∙◌}
use Rattle.amo_status.proofs.RowSteps.{spaced_more}
use Rattle.amo_status.proofs.listing.push_spaced.Goals as goal

pub loop-number-preserved : goal.loop-number-preserved
loop-number-preserved c =
    spaced_more c.args.numbers.now c.loop-number.number-index _ c.loop-number.text.items c.extend_from_slice.new.self.items _ c.loop-number-test.true c.loop-number.invariant
    (c.in_ok-extend_from_slice.ensures.items ∙ ap (λ w. c.loop-number.text.items ++ w) (c.as_bytes.ensures.value ∙ c.in_ok-word.ensures.ok))
