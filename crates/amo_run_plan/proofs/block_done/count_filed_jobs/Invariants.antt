-- The facts that each pass of a loop of `count_filed_jobs` keeps.
use Rattle.std.proofs.Common.{◌≡◌, ◌≤◌, ◌*◌, sum_by}
use Rattle.amo_render.specs.Results.{jobs_in_block}
use Rattle.amo_run_plan.specs.Noted.{filed_blocks}
use Rattle.amo_run_plan.proofs.block_done.count_filed_jobs.Given as goal

-- the jobs of those so far are counted
abbrev pub invariant-loop-i : goal.invariant-loop-i
invariant-loop-i l = record {
  few : l.count ≤ l.block * l.i;
  all : l.count ≡ sum_by (jobs_in_block l.block l.jobs) (filed_blocks l.filed l.i);
}
