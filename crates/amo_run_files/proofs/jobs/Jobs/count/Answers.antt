-- `Jobs::count`: its promises, by the lemmas of Cuts, Ends and Refusals.
use Rattle.std.proofs.Common.{length, List, ℕ, ap, subst, arith}
use Rattle.amo_run_files.specs.Lines.{lines_in}
use Rattle.amo_run_files.specs.Jobs.{AreJobs}
use Rattle.amo_run_files.proofs.Cuts.{lacking}
use Rattle.amo_run_files.proofs.Ends.{length_ends}
use Rattle.amo_run_files.proofs.Refusals.{jobs_are}
use Rattle.amo_run_files.proofs.jobs.Jobs.count.Goals as goal

pub returns-clause-count : goal.returns-clause-count
returns-clause-count c =
    omega (arith, c.len.ensures, c.self.inside.ends.ok.0, ap length c.self.invariant.ends, length_ends 0 (lines_in c.self.inside.bytes.items), ap length c.self.view_is)

pub returns-clause-jobs : goal.returns-clause-jobs
returns-clause-jobs c =
    let bytes = c.self.inside.bytes.items in
    subst (λ (ls : List (List ℕ)). AreJobs ls) c.self.view_is (jobs_are (lines_in bytes) c.self.invariant.stand (lacking bytes).0)
