-- `run_all_out`: the premises of its calls, by the lemmas of ReachedWorlds and Stopped.
use Rattle.std.proofs.Common.{◌+◌, ◌*◌, ◌≤◌, subst, sym, ap, arith}
use Rattle.amo_params.specs.declared.givens.Givens.{Givens}
use Rattle.amo_params.specs.Givens.{lone_bound}
use Rattle.amo_world.specs.Views.{WorldView}
use Rattle.amo_report.specs.Reached.{most_before_an_end, most_before_all_ends}
use Rattle.amo_report.specs.Stops.{LoneRun, all_run_out}
use Rattle.amo_report.proofs.ReachedWorlds.{reached_later}
use Rattle.amo_report.proofs.Stopped.{first_under, seen_reached}
use Rattle.amo_report.proofs.stops.run_all_out.Goals as goal

pub run_out-most-requires-clause-reached : goal.run_out-most-requires-clause-reached
run_out-most-requires-clause-reached c =
    let v = c.args.world.now in
    let before = c.loop-before.before in
    let start : LoneRun = record { world = v.world; most = 0 } in
    let under = first_under v.givens before most_before_all_ends v.world c.requires in
    let workers = c.givens-workers.result.limits.few_workers in
    let few : most_before_all_ends + before * 17174624 ≤ most_before_an_end = omega arith in
    seen_reached v.givens most_before_an_end (all_run_out v.givens before start).world _ c.loop-before.invariant.world (reached_later v.givens _ most_before_an_end _ few under.reached)

pub run_out-most-requires-clause-most : goal.run_out-most-requires-clause-most
run_out-most-requires-clause-most c =
    let v = c.args.world.now in
    let before = c.loop-before.before in
    let under = first_under v.givens before most_before_all_ends v.world c.requires in
    let most = under.most in
    let counted = c.loop-before.invariant.most in
    subst (λ (g : Givens). c.loop-before.most ≤ lone_bound g) (sym (ap (λ (x : WorldView). x.givens) c.loop-before.invariant.world)) (omega arith)
