-- `run_out`: the premises of its calls and what its loop keeps, by the lemmas of ReachedWorlds and
-- Stopped.
use Rattle.std.proofs.Common.{◌+◌, ◌*◌, ◌≤◌, sym, ◌∙◌, arith}
use Rattle.amo_report.specs.Reached.{most_before_a_claim, most_before_an_end}
use Rattle.amo_report.specs.Stops.{LoneRun, after_lone_runs}
use Rattle.amo_report.proofs.ReachedWorlds.{reached_later}
use Rattle.amo_report.proofs.Stopped.{often_under, seen_reached, goes_on, stays}
use Rattle.amo_report.proofs.stops.run_out.Goals.{then-not-is_gone, else-not-is_gone}
use Rattle.amo_report.proofs.stops.run_out.Goals as goal

pub lone_run-requires-clause-reached : goal.lone_run-requires-clause-reached
lone_run-requires-clause-reached c =
    let v = c.args.world.now in
    let times = c.loop-time._time in
    let start : LoneRun = record { world = v.world; most = c.args.most } in
    let under = often_under v.givens c.args.p times most_before_an_end start (record { reached = c.requires.reached; most = c.requires.most }) in
    let jobs = c.givens-time-end.result.limits.few_jobs in
    let few : most_before_an_end + times * 4192 ≤ most_before_a_claim = omega arith in
    seen_reached v.givens most_before_a_claim (after_lone_runs v.givens c.args.p times start).world _ c.loop-time.invariant.world (reached_later v.givens _ most_before_a_claim _ few under.reached)

pub loop-time-preserved : goal.loop-time-preserved
loop-time-preserved c =
    let v = c.args.world.now in
    let start : LoneRun = record { world = v.world; most = c.args.most } in
    let old = c.loop-time in
    elim c.if-not-is_gone.branch [
      | then-not-is_gone w ↦
          let next = goes_on v.givens c.args.p old._time start old.world w.lone_run.new.world old.most w.lone_run.result old.invariant (sym c.is_gone.ensures ∙ w.if-not-is_gone.true) w.lone_run.ensures.turns w.lone_run.ensures.world in
          record { world = w.world-is ∙ next.world; most = w.most-is ∙ w.max-most.ensures ∙ next.most }
      | else-not-is_gone w ↦
          let next = stays v.givens c.args.p old._time start old.world old.most old.invariant (sym c.is_gone.ensures ∙ w.if-not-is_gone.false) in
          record { world = w.world-is ∙ next.world; most = w.most-is ∙ next.most }
    ]
