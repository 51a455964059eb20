-- `Site::journal`: its promises, by the lemmas of Steps.
use Rattle.amo_call_log_judge.proofs.Steps.{there}
use Rattle.amo_call_log_judge.proofs.site.Site.journal.Goals as goal

pub returns : goal.returns
returns c = there c.args.self.now.journals.items c.args.worker c.index.result.now c.requires c.index.ensures
