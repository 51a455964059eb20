-- The facts that each pass of a loop of `count_jobs` keeps.
use Rattle.std.proofs.Common.{◌≡◌, ◌≤◌, ◌+◌, ◌*◌, drop, sum_by}
use Rattle.amo_kk.specs.Run.{done_jobs}
use Rattle.amo_render.specs.Results.{jobs_in_block}
use Rattle.amo_render.proofs.tallies.count_jobs.Given as goal

-- those counted and those to come are all
abbrev pub invariant-loop-event : goal.invariant-loop-event
invariant-loop-event l = record {
  few : l.count ≤ l.block * l.event-index;
  all : l.count + sum_by (jobs_in_block l.block l.jobs) (done_jobs (drop l.event-index l.history)) ≡ sum_by (jobs_in_block l.block l.jobs) (done_jobs l.history);
}
