-- `Site::intend`: its promises, by the lemmas of Steps.
use Rattle.std.proofs.Common.{refl}
use Rattle.amo_call_log_judge.proofs.Steps.{intends_follows, there, with_journal}
use Rattle.amo_call_log_judge.proofs.site.Site.intend.Goals as goal

pub returns : goal.returns
returns c =
    intends_follows c.args.self.now (with_journal c.args.self.now c.args.worker c.intend.new.self) c.args.worker c.index_mut.result.now c.intend.new.self c.requires
    (there c.args.self.now.journals.items c.args.worker c.index_mut.result.now c.requires c.index_mut.ensures.value) refl refl refl
    c.args.line c.in_ok-intend.ensures.kept c.in_ok-intend.ensures.stage c.in_ok-intend.ensures.seen
