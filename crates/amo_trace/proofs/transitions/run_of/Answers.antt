-- `run_of`: the premises of its calls, by the lemmas of Rounds (amo_report) and Range.
use Rattle.std.proofs.Common.{ap, ◌∙◌}
use Rattle.amo_world.specs.Views.{WorldView}
use Rattle.amo_report.proofs.Rounds.{range_of}
use Rattle.amo_trace.proofs.Range.{all_in_range}
use Rattle.amo_trace.proofs.transitions.run_of.Goals as goal

pub make_moves-requires : goal.make_moves-requires
make_moves-requires c =
    let plan = c.args.plan.now in
    range_of plan.heads.givens c.in_ok-world.world.givens _ c.deref.result.now
    (ap (λ (v : WorldView). v.givens) c.in_ok-world.ensures)
    (c.deref.ensures.value ∙ c.in_ok-moves.ensures)
    (all_in_range plan.heads.givens plan.heads.moves plan.heads.rounds plan.within)
