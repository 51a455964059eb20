-- The facts that each pass of a loop of `run_from` keeps.
use Rattle.std.proofs.Common.{length}
use Rattle.amo_crew.proofs.run.threads.+run_from.Given as goal

abbrev pub decreases-run_from : goal.decreases-run_from
decreases-run_from g l = length l.crew.items
