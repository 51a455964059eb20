-- `JobSet::covers`: its promises, by the lemmas of Shown.
use Rattle.std.proofs.Common.{arith}
use Rattle.std.proofs.lemmas.Bool.Decides.{nat_tests}
use Rattle.amo_sets.proofs.Shown.{length_of}
use Rattle.amo_sets.proofs.job_set.JobSet.covers.Goals as goal

pub returns-then-j-ge1 : goal.returns-then-j-ge1
returns-then-j-ge1 c = let n = length_of c.self.inside c.args.self.now c.self.view_is in grind (arith, nat_tests)
