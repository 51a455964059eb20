-- `Outlet::put`: the premises of its calls, by the lemmas of Passes.
use Rattle.std.proofs.Common.{ap, sym, ◌∙◌, ℕ}
use Rattle.crossbeam_queue.specs.Passes.{view}
use Rattle.amo_mailbox.specs.Ports.{OutletView}
use Rattle.amo_mailbox.specs.Endpoints.{sent_by}
use Rattle.amo_mailbox.specs.declared.pass_state.PassState.TheVariants.{Sends}
use Rattle.amo_mailbox.proofs.Passes.{sends}
use Rattle.amo_mailbox.proofs.outlet.Outlet.put.Goals as goal

pub push_as-requires-clause-rule : goal.push_as-requires-clause-rule
push_as-requires-clause-rule g c =
    (sends _ _ _ _ _ (ap (λ (o : OutletView g.row.Out.Denot). view o.pass) c.self.view_is ∙ c.requires.belong.view_is ∙ ap (λ (w : ℕ). Sends w (sent_by (view c.args.self.now.pass))) (sym c.requires.worker)), λ items views h at. tt)
