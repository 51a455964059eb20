-- `JobSet::len`: its promises, by the lemmas of Shown.
use Rattle.amo_sets.proofs.Shown.{kept_is}
use Rattle.amo_sets.proofs.job_set.JobSet.len.Goals as goal

pub returns : goal.returns
returns c = kept_is c.self.inside c.args.self.now c.self.view_is c.self.invariant
