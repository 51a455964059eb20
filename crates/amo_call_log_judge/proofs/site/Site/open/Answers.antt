-- `Site::open`: its promises, by the lemmas of Steps.
use Rattle.std.proofs.Common.{refl}
use Rattle.amo_call_log_judge.proofs.Steps.{opens_follows, there, with_journal}
use Rattle.amo_call_log_judge.proofs.site.Site.open.Goals as goal

pub returns : goal.returns
returns c =
    opens_follows c.args.self.now (with_journal c.args.self.now c.args.attempt.worker c.open.new.self) c.args.attempt.worker c.index_mut.result.now c.open.new.self c.requires
    (there c.args.self.now.journals.items c.args.attempt.worker c.index_mut.result.now c.requires c.index_mut.ensures.value) refl refl refl
    c.args.attempt.serial c.open.ensures.kept c.open.ensures.stage c.open.ensures.seen
