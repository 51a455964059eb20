-- The facts that each pass of a loop of `judge_run` keeps.
use Rattle.std.proofs.Common.{map, take}
use Rattle.amo_safety_by_journals.specs.Runs.{Clearance, IsRun, site_of}
use Rattle.amo_params.specs.declared.limits.TheConstants.{MAX_WORKERS}
use Rattle.amo_call_log_judge.specs.Events.{event_of}
use Rattle.amo_call_log_judge.specs.Seen.{Shows}
use Rattle.amo_call_log_judge.proofs.judging.judge_run.Given as goal

-- the events so far are a run, and the state shows the site after them
abbrev pub invariant-loop-index : goal.invariant-loop-index
invariant-loop-index l = record {
  run : IsRun Clearance MAX_WORKERS (map event_of (take l.index l.events));
  shows : Shows l.site (site_of (map event_of (take l.index l.events)));
}
