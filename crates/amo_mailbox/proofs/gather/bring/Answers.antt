-- `bring`: the premises of its calls, by the lemmas of Passes.
use Rattle.std.proofs.Common.{ap, ◌∙◌}
use Rattle.crossbeam_queue.specs.Passes.{view}
use Rattle.amo_mailbox.proofs.Passes.{cuts, merges}
use Rattle.amo_mailbox.specs.Mailbox.{goes}
use Rattle.amo_mailbox.specs.Ports.{OutletView}
use Rattle.amo_mailbox.proofs.gather.bring.Goals as goal

pub another-whole-requires-clause-rule : goal.another-whole-requires-clause-rule
another-whole-requires-clause-rule g c = cuts _ _ _ _ (ap (λ (o : OutletView g.row.Out.Denot). view o.pass) c.outlet.view_is ∙ c.requires.belong.view_is)

pub absorb-requires-clause-rule : goal.absorb-requires-clause-rule
absorb-requires-clause-rule g c = merges _ _ _ _ _ _ _ _ _ c.requires.view
    (c.another-whole.ensures.rule.1 ∙ ap goes (ap (λ (o : OutletView g.row.Out.Denot). view o.pass) c.outlet.view_is ∙ c.requires.belong.view_is))
