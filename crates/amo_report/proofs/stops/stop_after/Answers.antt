-- `stop_after`: the premises of its calls, by the lemmas of WithinLemmas (amo_plan) and Rounds.
use Rattle.std.proofs.Common.{take, ap, ◌∙◌}
use Rattle.amo_world.specs.Views.{WorldView}
use Rattle.amo_plan.proofs.WithinLemmas.{in_range-take}
use Rattle.amo_report.proofs.Rounds.{range_of}
use Rattle.amo_report.proofs.stops.stop_after.Goals as goal

pub run-requires : goal.run-requires
run-requires c =
    let plan = c.args.plan.now in
    range_of plan.heads.givens _ (take c.args.count plan.heads.moves) _ (ap (λ (v : WorldView). v.givens) c.in_ok-world.ensures) (c.split_at.ensures.front ∙ ap (take c.args.count) c.as_slice.ensures)
    (in_range-take plan.heads.givens c.args.count plan.heads.moves plan.within)
