-- The facts that each pass of a loop of `part_jobs` keeps.
use Rattle.std.proofs.Common.{◌≡◌, map}
use Rattle.amo_plan.proofs.naming.part_jobs.Given as goal

abbrev pub invariant-loop-job : goal.invariant-loop-job
invariant-loop-job l = record {
  names : l.names.items ≡ map (λ job. job.name) l.yielded;
  tasks : l.tasks.items ≡ map (λ job. job.task) l.yielded;
}
