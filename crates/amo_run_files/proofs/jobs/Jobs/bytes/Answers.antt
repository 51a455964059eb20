-- `Jobs::bytes`: its promises, by the lemmas of KeptJobs.
use Rattle.std.proofs.Common.{ap, ◌∙◌}
use Rattle.amo_run_log.specs.Texts.{ended}
use Rattle.amo_run_files.proofs.KeptJobs.{bytes_are}
use Rattle.amo_run_files.proofs.jobs.Jobs.bytes.Goals as goal

pub returns : goal.returns
returns c = c.deref.ensures.value ∙ bytes_are c.self.inside.bytes.items c.self.invariant.whole ∙ ap ended c.self.view_is
