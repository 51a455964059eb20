-- `Site::release`: its promises, by the lemmas of Steps.
use Rattle.std.proofs.Common.{refl, ap, ◌∙◌}
use Rattle.std.specs.Vec.{with_item}
use Rattle.amo_call_log_judge.specs.declared.journal.Journal.{Journal}
use Rattle.amo_call_log_judge.proofs.Steps.{hands_over_follows, same_journal}
use Rattle.amo_call_log_judge.proofs.site.Site.release.Goals as goal

pub returns : goal.returns
returns c j is held =
    hands_over_follows c.args.self.now (record { journals = with_item c.args.self.now.journals c.args.worker c.set_stage.new.self; alive = c.push_front.new.self; performed = c.args.self.now.performed })
    c.args.worker j c.set_stage.new.self c.requires is refl refl c.args.serial c.args.line held c.in_ok-push_front.ensures.items
    (c.set_stage.ensures.kept ∙ ap (λ (x : Journal). x.kept.items) (same_journal c.args.self.now.journals.items c.args.worker c.index_mut.result.now j c.requires c.index_mut.ensures.value is)) c.set_stage.ensures.stage
