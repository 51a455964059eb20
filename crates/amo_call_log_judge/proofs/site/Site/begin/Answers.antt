-- `Site::begin`: its promises, by the lemmas of Steps.
use Rattle.std.proofs.Common.{refl}
use Rattle.amo_call_log_judge.proofs.Steps.{begins_follows, there, with_journal}
use Rattle.amo_call_log_judge.proofs.site.Site.begin.Goals as goal

pub returns : goal.returns
returns c =
    begins_follows c.args.self.now (with_journal c.args.self.now c.args.worker c.set_stage.new.self) c.args.worker c.index_mut.result.now c.set_stage.new.self c.requires
    (there c.args.self.now.journals.items c.args.worker c.index_mut.result.now c.requires c.index_mut.ensures.value) refl refl refl
    c.set_stage.ensures.kept c.set_stage.ensures.stage
