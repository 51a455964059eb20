-- `Site::land`: its promises, by the lemmas of Steps.
use Rattle.std.proofs.Common.{refl}
use Rattle.amo_call_log_judge.proofs.Steps.{lands_follows, there, with_journal}
use Rattle.amo_call_log_judge.proofs.site.Site.land.Goals as goal

pub returns : goal.returns
returns c =
    lands_follows c.args.self.now (with_journal c.args.self.now c.args.worker c.keep.new.self) c.args.worker c.index_mut.result.now c.keep.new.self c.requires
    (there c.args.self.now.journals.items c.args.worker c.index_mut.result.now c.requires c.index_mut.ensures.value) refl refl refl
    c.args.line c.in_ok-keep.ensures.kept c.in_ok-keep.ensures.stage c.in_ok-keep.ensures.seen
