-- `push_stopped`: the premises of its calls, by the lemmas of Stopped.
use Rattle.amo_plan.specs.PlanSeen.{plan_seen}
use Rattle.amo_report.specs.Reached.{most_before_all_ends}
use Rattle.amo_report.specs.Stops.{stopped_world}
use Rattle.amo_report.proofs.Stopped.{seen_reached, stopped_reached}
use Rattle.amo_report.proofs.stops.push_stopped.Goals as goal

pub run_all_out-most-requires : goal.run_all_out-most-requires
run_all_out-most-requires c =
    let plan = plan_seen c.args.plan.now in
    seen_reached plan.givens most_before_all_ends (stopped_world plan c.args.p c.args.count) _ c.in_ok-world.ensures (stopped_reached plan c.args.p c.args.count c.requires.few)
