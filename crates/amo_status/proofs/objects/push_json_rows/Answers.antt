-- `push_json_rows`: what its loop keeps, by the lemmas of RowSteps.
use Rattle.std.proofs.Common.{map}
use Rattle.amo_status.proofs.RowSteps.{row_more}
use Rattle.amo_status.proofs.objects.push_json_rows.Goals as goal

pub loop-i-preserved : goal.loop-i-preserved
loop-i-preserved c =
    row_more c.args.clock c.args.standings.now c.loop-i.i _ (map (λ t. t.now) c.args.texts.now) c.loop-i.later _ c.loop-i.text.items _ _
    c.loop-i-test.true c.loop-i.invariant c.in_ok-push_json_row.ensures c.is_later-later.ensures
