-- `JobSet::range`: its promises, by the lemmas of Shown.
use Rattle.std.proofs.Common.{sym}
use Rattle.amo_sets.proofs.Shown.{length_of}
use Rattle.amo_sets.proofs.job_set.JobSet.range.Goals as goal

pub returns : goal.returns
returns c = sym (length_of c.self.inside c.args.self.now c.self.view_is)
