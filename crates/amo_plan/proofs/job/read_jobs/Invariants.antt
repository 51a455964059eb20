-- The facts that each pass of a loop of `read_jobs` keeps.
use Rattle.toml.specs.View.{table_view}
use Rattle.amo_plan.specs.Jobs.{job_at}
use Rattle.amo_plan.proofs.PassingLemmas.{Reads}
use Rattle.amo_plan.proofs.job.read_jobs.Given as goal

abbrev pub invariant-loop-i : goal.invariant-loop-i
invariant-loop-i l = Reads (λ t. table_view t.now) job_at l.tables l.i l.jobs.items
